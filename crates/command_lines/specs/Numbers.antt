-- How the number of an option is declared.
use Rattle.std.specs.Prelude.{◌≡◌, ℕ, List, Some, false}
use Rattle.clap.specs.Words.{Rule, rule_of, IsPlainArg}
use Rattle.clap.specs.declared.builder.arg.Arg.{Arg}
use Rattle.clap.specs.declared.builder.value_parser.ValueParser.{ValueParser}
use Rattle.command_lines.specs.CommandLine.{plain}

-- an argument of this rule, name and parser, which excludes nothing
pub record IsNumberArg (rule : Rule) (name : List ℕ) (parser : ValueParser) (a : Arg) : Type 0 where
  pub ruled : rule_of a ≡ rule
  pub named : a.id.now ≡ name
  pub parsed : a.value_parser ≡ Some parser
  pub plain : IsPlainArg a
  pub local : a.global ≡ false

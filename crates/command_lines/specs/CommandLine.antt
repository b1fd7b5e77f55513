-- TO BELIEVE: the theorem rests on these definitions, and no proof can check them.
-- The command lines, as clap's own definition of a parse sees them.
use Rattle.std.specs.Prelude.{◌≡◌, ◌≢◌, ◌^◌, ℕ, pos, List, Option, Some, None, codes, true}
use Rattle.std.specs.Str.Parse.{digits_value, without_leading_plus}
use Rattle.clap.specs.Simple.{on_top}
use Rattle.clap.specs.Words.{App, Rule, Text, Kinds, new_app, new_rule, with_rule, fault_of}
use Rattle.clap.specs.Words.{matches_of, one_of}
use Rattle.clap.specs.declared.builder.action.ArgAction.TheVariants.{SetTrue}
use Rattle.clap.specs.declared.builder.value_parser.ValueParser.{ValueParser}
use Rattle.clap.specs.declared.builder.value_parser.ValueParser.TheVariants.{Signed}

-- the flag `--plain`
abbrev pub plain : Rule
plain = record (new_rule (codes "plain")) { long = Some (codes "plain"); action = Some SetTrue }

-- an option `--NAME VALUE` whose value is what the parser takes
abbrev pub option : List ℕ → ValueParser → Rule
option name parser = record (new_rule name) {
  long = Some name;
  value_names = 1;
  parser = Some parser;
}

-- a number from the one to the other, both included
abbrev pub between : ℕ → ℕ → ValueParser
between least most = Signed (pos least) (pos most)

-- a command of this name that tells its version at `--version`
abbrev pub versioned : List ℕ → App
versioned name = on_top (λ s. record s { has_version = true }) (new_app name)

-- a number of values after which a hub forgets
abbrev pub values : ValueParser
values = between 0 (2 ^ 40)

-- `cqlrun [--plain] [--turn R] [--workers N] [--forget V]`
abbrev pub cqlrun : App
cqlrun = with_rule (with_rule (with_rule (with_rule (versioned (codes "cqlrun")) plain)
    (option (codes "turn") (between 1 1024))) (option (codes "workers") (between 1 64)))
    (option (codes "forget") values)

-- an option that has to be there
abbrev pub wanted : Rule → Rule
wanted rule = record rule { required = true }

-- `cqld --port P --workers N --clients C [--serve K] [--idle S] [--forget V]`
abbrev pub cqld : App
cqld = with_rule (with_rule (with_rule (with_rule
    (with_rule (with_rule (versioned (codes "cqld"))
    (wanted (option (codes "port") (between 0 65535))))
    (wanted (option (codes "workers") (between 1 64))))
    (wanted (option (codes "clients") (between 1 64))))
    (option (codes "serve") (between 0 1000000))) (option (codes "idle") (between 1 86400)))
    (option (codes "forget") values)

-- why the words of `cqlrun` are refused, the program's
-- own name first; nothing where they ask for a run
unfoldable pub refusals : List Text → Kinds
refusals words = fault_of cqlrun words

-- the same of `cqld`
unfoldable pub serve_refusals : List Text → Kinds
serve_refusals words = fault_of cqld words

-- the text that the words of `cqlrun` give an option, where it stands among
-- them; of the flag `--plain` it is `true` where it stands there, else `false`
unfoldable pub run_text : List ℕ → List Text → Option Text
run_text name words = one_of name (matches_of cqlrun words)

-- the text that the words of `cqld` give an option
unfoldable pub serve_text : List ℕ → List Text → Option Text
serve_text name words = one_of name (matches_of cqld words)

-- the words ask for the plain engine
abbrev pub IsPlain : List Text → Type 0
IsPlain words = run_text (codes "plain") words ≡ Some (codes "true")

-- and for threads beside it
abbrev pub AsksBoth : List Text → Type 0
AsksBoth words = IsPlain words × (run_text (codes "workers") words ≢ None)

-- the words ask to forget, and for no threads
abbrev pub ForgetsAlone : List Text → Type 0
ForgetsAlone words = (run_text (codes "forget") words ≢ None)
    × (run_text (codes "workers") words ≡ None)

-- the number that a text says, in decimal digits
abbrev pub number_in : Text → ℕ
number_in text = digits_value 10 (without_leading_plus text)

-- and another where there is none
abbrev pub number_or : ℕ → Option Text → ℕ
number_or default None = default
number_or default (Some text) = number_in text

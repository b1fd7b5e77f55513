use Rattle.std.specs.Prelude.{◌≤◌, ◌^◌, IfSome}
use Rattle.std.proofs.Common.{◌≡◌, rules, ap, ap₂, refl, subst, sym, ◌∙◌, true, map, codes, ℕ, List, [], ◌∷◌, Option, None, Some, arith}
use Rattle.std.specs.Str.Parse.{ParsesUnsigned, ExplainsUnsignedError, HasUnsignedDigitsIfOk}
use Rattle.clap.specs.Simple.{app_of_fields, on_top}
use Rattle.clap.specs.Words.{App, HasKind, app_of, rule_of, with_rule, is_simple, is_simple_and_free, fault_of, matches_of}
use Rattle.clap.specs.declared.builder.arg.Arg.{Arg}
use Rattle.clap.proofs.OnLiterals.{clap_on_literals}
use Rattle.command_lines.specs.CommandLine.{plain, option, between, cqlrun, refusals, run_text, values, versioned}
use Rattle.command_lines.specs.declared.run.RunOptions.{RunOptions}
use Rattle.command_lines.proofs.Numbers.{IsNumber, or_default, default_within}
use Rattle.command_lines.proofs.Passing.{FitsElse}
use Rattle.command_lines.proofs.Reading.{Parsed, IsAsked, four, number_at, flag_at, if_asked, if_refused, if_taken}
use Rattle.command_lines.proofs.run.run_options.Given.{Over}
use Rattle.command_lines.proofs.run.run_options.Goals.{Joined-matches}
use Rattle.command_lines.proofs.run.run_options.Goals as goal

is_free : is_simple_and_free cqlrun ≡ true
unfolding clap_on_literals
is_free = refl

is_plain_app : is_simple cqlrun ≡ true
unfolding clap_on_literals
is_plain_app = refl

-- the command tells its version
versioned_is : (g : Over) (c : Joined-matches g) → app_of c.version.result ≡ versioned (codes "cqlrun")
versioned_is g c = ap app_of_fields c.version.ensures ∙ ap (on_top (λ s. record s { has_version = true })) c.new-4.ensures.app

-- the command that the code builds is the one of the definitions
command_is : (g : Over) (c : Joined-matches g) → app_of c.in_ok-command.command ≡ cqlrun
command_is g c =
    let plain_is : rule_of c.help-plain.result ≡ plain = search (rules, c.new.ensures, c.long.ensures, c.action.ensures, c.help-plain.ensures) in
    let turn_is : rule_of c.number-turn.result ≡ option (codes "turn") (between 1 1024) = search rules in
    let workers_is : rule_of c.number-workers.result ≡ option (codes "workers") (between 1 64) = search rules in
    let forget_is : rule_of c.forget.result ≡ option (codes "forget") values = c.forget.ensures.ruled in
    c.in_ok-command.ensures.shape (search rules) ∙ ap₂ with_rule (c.in_ok-arg-3.ensures.shape (search rules) ∙ ap₂ with_rule (c.in_ok-arg-2.ensures.shape (search rules) ∙ ap₂ with_rule (c.in_ok-arg.ensures.shape (search (rules, c.new.ensures, c.long.ensures, c.action.ensures, c.help-plain.ensures)) ∙ ap₂ with_rule (versioned_is g c) plain_is) turn_is) workers_is) forget_is

abbrev args_are : (g : Over) (c : Joined-matches g) → List Arg
args_are g c = c.help-plain.result ∷ c.number-turn.result ∷ c.number-workers.result ∷ c.forget.result ∷ []

parsed : (g : Over) (c : Joined-matches g) → Parsed c.in_ok-command.command c.in-Ok.matches cqlrun (map g.S.AsStr.text c.args.words.now) (args_are g c)
parsed g c =
    let is = command_is g c in
    let words = map g.S.AsStr.text c.args.words.now in
    let plain_id : c.help-plain.result.id.now ≡ codes "plain" = search rules in
    let turn_id : c.number-turn.result.id.now ≡ codes "turn" = search rules in
    let workers_id : c.number-workers.result.id.now ≡ codes "workers" = search rules in
    let forget_id : c.forget.result.id.now ≡ codes "forget" = c.forget.ensures.named in
    record {
      start = c.version.result;
      added = (c.in_ok-arg.field-0, c.in_ok-arg.ensures, (c.in_ok-arg-2.field-0, c.in_ok-arg-2.ensures, (c.in_ok-arg-3.field-0, c.in_ok-arg-3.ensures, (c.in_ok-command.command, c.in_ok-command.ensures, refl))));
      args = ap (λ f. f.args.items) c.version.ensures ∙ c.new-4.ensures.empty.0;
      groups = ap (λ f. f.groups.items) c.version.ensures ∙ c.new-4.ensures.empty.1;
      globals = ap (λ f. f.has_globals) c.version.ensures ∙ c.new-4.ensures.local;
      ids = codes "plain" ∷ codes "turn" ∷ codes "workers" ∷ codes "forget" ∷ [];
      named = rw (plain_id, turn_id, workers_id, forget_id) refl;
      distinct_ids = refl;
      ordinary_ids = refl;
      each = four FitsElse c.help-plain.result c.number-turn.result c.number-workers.result c.forget.result (search (rules, c.new.ensures, c.long.ensures, c.action.ensures, c.help-plain.ensures)) (c.number-turn.ensures.plain, c.number-turn.ensures.local) (c.number-workers.ensures.plain, c.number-workers.ensures.local) (c.forget.ensures.plain, c.forget.ensures.local);
      parsed = c.in-Ok.ensures.parsed;
      rows = (c.in-Ok.ensures.matches (ap is_simple is ∙ is_plain_app)).0 ∙ ap (λ a. matches_of a words) is;
    }

abbrev options_are : (g : Over) (c : Joined-matches g) → RunOptions
options_are g c = record { is_plain = c.unwrap_or.result; turn = c.unwrap_or-in-Ok.result; workers = c.get_one-in-Ok-2.result; forget = c.get_one-in-Ok-3.result }

asked : (g : Over) (c : Joined-matches g) → IsAsked (map g.S.AsStr.text c.args.words.now) (options_are g c)
unfolding refusals run_text
asked g c =
    let is = command_is g c in
    let words = map g.S.AsStr.text c.args.words.now in
    let p = parsed g c in
    let turn_id : c.number-turn.result.id.now ≡ codes "turn" = search rules in
    let workers_id : c.number-workers.result.id.now ≡ codes "workers" = search rules in
    let turn_parser : c.number-turn.result.value_parser ≡ Some (between 1 1024) = search rules in
    let workers_parser : c.number-workers.result.value_parser ≡ Some (between 1 64) = search rules in
    let turn_text = run_text (codes "turn") words in
    let turn : IsNumber 1 1024 turn_text c.get_one-in-Ok.result =
    number_at _ _ cqlrun words (args_are g c) p _ (λ bs r. ParsesUnsigned 32 10 bs r × ExplainsUnsignedError 10 bs r × HasUnsignedDigitsIfOk bs r) 32 1 1024 (omega arith) (λ u x h. h.0)
    1 c.number-turn.result (omega arith) (codes "turn") turn_id turn_parser c.get_one-in-Ok.result c.get_one-in-Ok.ensures.none c.get_one-in-Ok.ensures.value in
    let workers : IsNumber 1 64 (run_text (codes "workers") words) c.get_one-in-Ok-2.result =
    number_at _ _ cqlrun words (args_are g c) p _ (λ bs r. ParsesUnsigned 32 10 bs r × ExplainsUnsignedError 10 bs r × HasUnsignedDigitsIfOk bs r) 32 1 64 (omega arith) (λ u x h. h.0)
    2 c.number-workers.result (omega arith) (codes "workers") workers_id workers_parser c.get_one-in-Ok-2.result c.get_one-in-Ok-2.ensures.none c.get_one-in-Ok-2.ensures.value in
    let forget_parser : c.forget.result.value_parser ≡ Some values = ap (λ r. r.parser) c.forget.ensures.ruled in
    let forget : IsNumber 0 (2 ^ 40) (run_text (codes "forget") words) c.get_one-in-Ok-3.result =
    number_at _ _ cqlrun words (args_are g c) p _ (λ bs r. ParsesUnsigned 64 10 bs r × ExplainsUnsignedError 10 bs r × HasUnsignedDigitsIfOk bs r) 64 0 (2 ^ 40) (omega arith) (λ u x h. h.0)
    3 c.forget.result (omega arith) (codes "forget") c.forget.ensures.named forget_parser c.get_one-in-Ok-3.result c.get_one-in-Ok-3.ensures.none c.get_one-in-Ok-3.ensures.value in
    record {
      right = ap (λ a. fault_of a words) (sym is) ∙ c.in-Ok.ensures.kinds (ap is_simple_and_free is ∙ is_free);
      plain = rw c.unwrap_or.ensures (flag_at _ _ cqlrun words (args_are g c) p _ (λ u x h. h) (codes "plain") c.get_one.result c.get_one.ensures.none c.get_one.ensures.value);
      turn =
          let within = default_within 1 1024 256 turn_text c.get_one-in-Ok.result turn (omega arith) (omega arith) in
          rw c.unwrap_or-in-Ok.ensures (or_default 1 1024 256 turn_text c.get_one-in-Ok.result turn, within.0, within.1);
      workers = workers;
      forget = forget;
    }

pub returns-in-Err-clause-refused : goal.returns-in-Err-clause-refused
unfolding refusals
returns-in-Err-clause-refused g c =
    let plain_is : rule_of c.help-plain.result ≡ plain = search (rules, c.new.ensures, c.long.ensures, c.action.ensures, c.help-plain.ensures) in
    let turn_is : rule_of c.number-turn.result ≡ option (codes "turn") (between 1 1024) = search rules in
    let workers_is : rule_of c.number-workers.result ≡ option (codes "workers") (between 1 64) = search rules in
    let forget_is : rule_of c.forget.result ≡ option (codes "forget") values = c.forget.ensures.ruled in
    let versioned_is : app_of c.version.result ≡ versioned (codes "cqlrun") = ap app_of_fields c.version.ensures ∙ ap (on_top (λ s. record s { has_version = true })) c.new-4.ensures.app in
    let is : app_of c.in_ok-command.command ≡ cqlrun = c.in_ok-command.ensures.shape (search rules) ∙ ap₂ with_rule (c.in_ok-arg-3.ensures.shape (search rules) ∙ ap₂ with_rule (c.in_ok-arg-2.ensures.shape (search rules) ∙ ap₂ with_rule (c.in_ok-arg.ensures.shape (search (rules, c.new.ensures, c.long.ensures, c.action.ensures, c.help-plain.ensures)) ∙ ap₂ with_rule versioned_is plain_is) turn_is) workers_is) forget_is in
    subst (λ (a : App). HasKind (fault_of a (map g.S.AsStr.text c.args.words.now)) c.in-Err.error) is (c.in-Err.ensures.kinds (ap is_simple_and_free is ∙ is_free))

pub returns-in-Ok-clause-asked : goal.returns-in-Ok-clause-asked
returns-in-Ok-clause-asked g c = if_asked (map g.S.AsStr.text c.args.words.now) (options_are g c) c.refuse_some.result (asked g c) c.refuse_some.ensures

pub returns-in-Ok-clause-refused : goal.returns-in-Ok-clause-refused
returns-in-Ok-clause-refused g c = if_refused (map g.S.AsStr.text c.args.words.now) (options_are g c) c.refuse_some.result (asked g c) c.refuse_some.ensures

pub returns-in-Ok-clause-plain : goal.returns-in-Ok-clause-plain
returns-in-Ok-clause-plain g c = if_taken (map g.S.AsStr.text c.args.words.now) (options_are g c) c.refuse_some.result _ (asked g c).plain c.refuse_some.ensures

pub returns-in-Ok-clause-turn : goal.returns-in-Ok-clause-turn
returns-in-Ok-clause-turn g c = if_taken (map g.S.AsStr.text c.args.words.now) (options_are g c) c.refuse_some.result _ (asked g c).turn.0 c.refuse_some.ensures

pub returns-in-Ok-clause-workers : goal.returns-in-Ok-clause-workers
returns-in-Ok-clause-workers g c = if_taken (map g.S.AsStr.text c.args.words.now) (options_are g c) c.refuse_some.result _ (asked g c).workers.said c.refuse_some.ensures

at_most : (o : Option ℕ) → IfSome o (λ v. (0 ≤ v) × (v ≤ 2 ^ 40)) → IfSome o (λ v. v ≤ 2 ^ 40)
at_most None h = tt
at_most (Some n) h = h.1

pub returns-in-Ok-clause-forget : goal.returns-in-Ok-clause-forget
returns-in-Ok-clause-forget g c = if_taken (map g.S.AsStr.text c.args.words.now) (options_are g c) c.refuse_some.result _ (asked g c).forget.said c.refuse_some.ensures

pub returns-in-Ok-clause-range : goal.returns-in-Ok-clause-range
returns-in-Ok-clause-range g c = let is = asked g c in if_taken (map g.S.AsStr.text c.args.words.now) (options_are g c) c.refuse_some.result _ (is.turn.1, is.turn.2, is.workers.within, at_most _ is.forget.within) c.refuse_some.ensures

use Rattle.std.specs.Prelude.{IfSome, ◌≤◌, ◌^◌}
use Rattle.std.proofs.Common.{◌≡◌, Option, None, rules, ap, ap₂, refl, subst, sym, ◌∙◌, true, map, codes, List, [], ◌∷◌, ℕ, Some, arith}
use Rattle.std.specs.Str.Parse.{ParsesUnsigned, ExplainsUnsignedError, HasUnsignedDigitsIfOk}
use Rattle.clap.specs.Simple.{app_of_fields, on_top}
use Rattle.clap.specs.Words.{App, HasKind, app_of, rule_of, with_rule, is_simple, is_simple_and_free, fault_of, matches_of}
use Rattle.clap.specs.declared.builder.arg.Arg.{Arg}
use Rattle.clap.proofs.OnLiterals.{clap_on_literals}
use Rattle.command_lines.specs.CommandLine.{option, wanted, between, cqld, serve_refusals, serve_text, values, versioned}
use Rattle.command_lines.proofs.Numbers.{IsNumber, or_default, default_within}
use Rattle.command_lines.proofs.Passing.{FitsElse}
use Rattle.command_lines.proofs.Reading.{Parsed, six, number_at}
use Rattle.command_lines.proofs.serve.serve_options.Given.{Over}
use Rattle.command_lines.proofs.serve.serve_options.Goals.{Joined-matches}
use Rattle.command_lines.proofs.serve.serve_options.Goals as goal

is_free : is_simple_and_free cqld ≡ true
unfolding clap_on_literals
is_free = refl

is_plain_app : is_simple cqld ≡ true
unfolding clap_on_literals
is_plain_app = refl

-- the command tells its version
versioned_is : (g : Over) (c : Joined-matches g) → app_of c.version.result ≡ versioned (codes "cqld")
versioned_is g c = ap app_of_fields c.version.ensures ∙ ap (on_top (λ s. record s { has_version = true })) c.new.ensures.app

-- the command that the code builds is the one of the definitions
command_is : (g : Over) (c : Joined-matches g) → app_of c.in_ok-command.command ≡ cqld
command_is g c =
    let port_is : rule_of c.port.result ≡ wanted (option (codes "port") (between 0 65535)) = c.port.ensures.ruled in
    let workers_is : rule_of c.threads-workers.result ≡ wanted (option (codes "workers") (between 1 64)) = c.threads-workers.ensures.ruled in
    let clients_is : rule_of c.threads-clients.result ≡ wanted (option (codes "clients") (between 1 64)) = c.threads-clients.ensures.ruled in
    let serve_is : rule_of c.connections.result ≡ option (codes "serve") (between 0 1000000) = c.connections.ensures.ruled in
    let idle_is : rule_of c.idle.result ≡ option (codes "idle") (between 1 86400) = c.idle.ensures.ruled in
    let forget_is : rule_of c.forget.result ≡ option (codes "forget") values = c.forget.ensures.ruled in
    c.in_ok-command.ensures.shape (search rules) ∙ ap₂ with_rule (c.in_ok-arg-5.ensures.shape (search rules) ∙ ap₂ with_rule (c.in_ok-arg-4.ensures.shape (search rules) ∙ ap₂ with_rule (c.in_ok-arg-3.ensures.shape (search rules) ∙ ap₂ with_rule (c.in_ok-arg-2.ensures.shape (search rules)
    ∙ ap₂ with_rule (c.in_ok-arg.ensures.shape (search rules) ∙ ap₂ with_rule (versioned_is g c) port_is) workers_is) clients_is) serve_is) idle_is) forget_is

abbrev args_are : (g : Over) (c : Joined-matches g) → List Arg
args_are g c = c.port.result ∷ c.threads-workers.result ∷ c.threads-clients.result ∷ c.connections.result ∷ c.idle.result ∷ c.forget.result ∷ []

parsed : (g : Over) (c : Joined-matches g) → Parsed c.in_ok-command.command c.in-Ok.matches cqld (map g.S.AsStr.text c.args.words.now) (args_are g c)
parsed g c =
    let is = command_is g c in
    let words = map g.S.AsStr.text c.args.words.now in
    let port_id : c.port.result.id.now ≡ codes "port" = c.port.ensures.named in
    let workers_id : c.threads-workers.result.id.now ≡ codes "workers" = c.threads-workers.ensures.named in
    let clients_id : c.threads-clients.result.id.now ≡ codes "clients" = c.threads-clients.ensures.named in
    let serve_id : c.connections.result.id.now ≡ codes "serve" = c.connections.ensures.named in
    let idle_id : c.idle.result.id.now ≡ codes "idle" = c.idle.ensures.named in
    let forget_id : c.forget.result.id.now ≡ codes "forget" = c.forget.ensures.named in
    record {
      start = c.version.result;
      added = (c.in_ok-arg.field-0, c.in_ok-arg.ensures, (c.in_ok-arg-2.field-0, c.in_ok-arg-2.ensures, (c.in_ok-arg-3.field-0, c.in_ok-arg-3.ensures, (c.in_ok-arg-4.field-0, c.in_ok-arg-4.ensures, (c.in_ok-arg-5.field-0, c.in_ok-arg-5.ensures, (c.in_ok-command.command, c.in_ok-command.ensures, refl))))));
      args = ap (λ f. f.args.items) c.version.ensures ∙ c.new.ensures.empty.0;
      groups = ap (λ f. f.groups.items) c.version.ensures ∙ c.new.ensures.empty.1;
      globals = ap (λ f. f.has_globals) c.version.ensures ∙ c.new.ensures.local;
      ids = codes "port" ∷ codes "workers" ∷ codes "clients" ∷ codes "serve" ∷ codes "idle" ∷ codes "forget" ∷ [];
      named = rw (port_id, workers_id, clients_id, serve_id, idle_id, forget_id) refl;
      distinct_ids = refl;
      ordinary_ids = refl;
      each = six FitsElse c.port.result c.threads-workers.result c.threads-clients.result c.connections.result c.idle.result c.forget.result (c.port.ensures.plain, c.port.ensures.local) (c.threads-workers.ensures.plain, c.threads-workers.ensures.local) (c.threads-clients.ensures.plain, c.threads-clients.ensures.local) (c.connections.ensures.plain, c.connections.ensures.local) (c.idle.ensures.plain, c.idle.ensures.local) (c.forget.ensures.plain, c.forget.ensures.local);
      parsed = c.in-Ok.ensures.parsed;
      rows = (c.in-Ok.ensures.matches (ap is_simple is ∙ is_plain_app)).0 ∙ ap (λ a. matches_of a words) is;
    }

port_is : (g : Over) (c : Joined-matches g) → IsNumber 0 65535 (serve_text (codes "port") (map g.S.AsStr.text c.args.words.now)) c.get_one.result
unfolding serve_text
port_is g c =
    let id : c.port.result.id.now ≡ codes "port" = search rules in
    let rule : rule_of c.port.result ≡ wanted (option (codes "port") (between 0 65535)) = c.port.ensures.ruled in
    let parser : c.port.result.value_parser ≡ Some (between 0 65535) = ap (λ r. r.parser) rule in
    number_at _ _ cqld (map g.S.AsStr.text c.args.words.now) (args_are g c) (parsed g c) _ (λ bs r. ParsesUnsigned 32 10 bs r × ExplainsUnsignedError 10 bs r × HasUnsignedDigitsIfOk bs r) 32 0 65535 (omega arith) (λ u x h. h.0)
    0 c.port.result (omega arith) (codes "port") id parser c.get_one.result c.get_one.ensures.none c.get_one.ensures.value

workers_is : (g : Over) (c : Joined-matches g) → IsNumber 1 64 (serve_text (codes "workers") (map g.S.AsStr.text c.args.words.now)) c.get_one-in-Ok.result
unfolding serve_text
workers_is g c =
    let id : c.threads-workers.result.id.now ≡ codes "workers" = c.threads-workers.ensures.named in
    let rule : rule_of c.threads-workers.result ≡ wanted (option (codes "workers") (between 1 64)) = c.threads-workers.ensures.ruled in
    let parser : c.threads-workers.result.value_parser ≡ Some (between 1 64) = ap (λ r. r.parser) rule in
    number_at _ _ cqld (map g.S.AsStr.text c.args.words.now) (args_are g c) (parsed g c) _ (λ bs r. ParsesUnsigned 32 10 bs r × ExplainsUnsignedError 10 bs r × HasUnsignedDigitsIfOk bs r) 32 1 64 (omega arith) (λ u x h. h.0)
    1 c.threads-workers.result (omega arith) (codes "workers") id parser c.get_one-in-Ok.result c.get_one-in-Ok.ensures.none c.get_one-in-Ok.ensures.value

clients_is : (g : Over) (c : Joined-matches g) → IsNumber 1 64 (serve_text (codes "clients") (map g.S.AsStr.text c.args.words.now)) c.get_one-in-Ok-2.result
unfolding serve_text
clients_is g c =
    let id : c.threads-clients.result.id.now ≡ codes "clients" = c.threads-clients.ensures.named in
    let rule : rule_of c.threads-clients.result ≡ wanted (option (codes "clients") (between 1 64)) = c.threads-clients.ensures.ruled in
    let parser : c.threads-clients.result.value_parser ≡ Some (between 1 64) = ap (λ r. r.parser) rule in
    number_at _ _ cqld (map g.S.AsStr.text c.args.words.now) (args_are g c) (parsed g c) _ (λ bs r. ParsesUnsigned 32 10 bs r × ExplainsUnsignedError 10 bs r × HasUnsignedDigitsIfOk bs r) 32 1 64 (omega arith) (λ u x h. h.0)
    2 c.threads-clients.result (omega arith) (codes "clients") id parser c.get_one-in-Ok-2.result c.get_one-in-Ok-2.ensures.none c.get_one-in-Ok-2.ensures.value

serve_is : (g : Over) (c : Joined-matches g) → IsNumber 0 1000000 (serve_text (codes "serve") (map g.S.AsStr.text c.args.words.now)) c.get_one-in-Ok-3.result
unfolding serve_text
serve_is g c =
    let id : c.connections.result.id.now ≡ codes "serve" = c.connections.ensures.named in
    let rule : rule_of c.connections.result ≡ option (codes "serve") (between 0 1000000) = c.connections.ensures.ruled in
    let parser : c.connections.result.value_parser ≡ Some (between 0 1000000) = ap (λ r. r.parser) rule in
    number_at _ _ cqld (map g.S.AsStr.text c.args.words.now) (args_are g c) (parsed g c) _ (λ bs r. ParsesUnsigned 32 10 bs r × ExplainsUnsignedError 10 bs r × HasUnsignedDigitsIfOk bs r) 32 0 1000000 (omega arith) (λ u x h. h.0)
    3 c.connections.result (omega arith) (codes "serve") id parser c.get_one-in-Ok-3.result c.get_one-in-Ok-3.ensures.none c.get_one-in-Ok-3.ensures.value

idle_is : (g : Over) (c : Joined-matches g) → IsNumber 1 86400 (serve_text (codes "idle") (map g.S.AsStr.text c.args.words.now)) c.get_one-in-Ok-4.result
unfolding serve_text
idle_is g c =
    let id : c.idle.result.id.now ≡ codes "idle" = c.idle.ensures.named in
    let rule : rule_of c.idle.result ≡ option (codes "idle") (between 1 86400) = c.idle.ensures.ruled in
    let parser : c.idle.result.value_parser ≡ Some (between 1 86400) = ap (λ r. r.parser) rule in
    number_at _ _ cqld (map g.S.AsStr.text c.args.words.now) (args_are g c) (parsed g c) _ (λ bs r. ParsesUnsigned 32 10 bs r × ExplainsUnsignedError 10 bs r × HasUnsignedDigitsIfOk bs r) 32 1 86400 (omega arith) (λ u x h. h.0)
    4 c.idle.result (omega arith) (codes "idle") id parser c.get_one-in-Ok-4.result c.get_one-in-Ok-4.ensures.none c.get_one-in-Ok-4.ensures.value

forget_is : (g : Over) (c : Joined-matches g) → IsNumber 0 (2 ^ 40) (serve_text (codes "forget") (map g.S.AsStr.text c.args.words.now)) c.get_one-in-Ok-5.result
unfolding serve_text
forget_is g c =
    let id : c.forget.result.id.now ≡ codes "forget" = c.forget.ensures.named in
    let rule : rule_of c.forget.result ≡ option (codes "forget") values = c.forget.ensures.ruled in
    let parser : c.forget.result.value_parser ≡ Some values = ap (λ r. r.parser) rule in
    number_at _ _ cqld (map g.S.AsStr.text c.args.words.now) (args_are g c) (parsed g c) _ (λ bs r. ParsesUnsigned 64 10 bs r × ExplainsUnsignedError 10 bs r × HasUnsignedDigitsIfOk bs r) 64 0 (2 ^ 40) (omega arith) (λ u x h. h.0)
    5 c.forget.result (omega arith) (codes "forget") id parser c.get_one-in-Ok-5.result c.get_one-in-Ok-5.ensures.none c.get_one-in-Ok-5.ensures.value

pub returns-in-Ok-clause-refusals : goal.returns-in-Ok-clause-refusals
unfolding serve_refusals
returns-in-Ok-clause-refusals g c =
    let is = command_is g c in
    ap (λ a. fault_of a (map g.S.AsStr.text c.args.words.now)) (sym is) ∙ c.in-Ok.ensures.kinds (ap is_simple_and_free is ∙ is_free)

pub returns-in-Ok-clause-port : goal.returns-in-Ok-clause-port
returns-in-Ok-clause-port g c = c.unwrap_or.ensures ∙ or_default 0 65535 0 (serve_text (codes "port") (map g.S.AsStr.text c.args.words.now)) _ (port_is g c)

pub returns-in-Ok-clause-workers : goal.returns-in-Ok-clause-workers
returns-in-Ok-clause-workers g c = c.unwrap_or-in-Ok.ensures ∙ or_default 1 64 1 (serve_text (codes "workers") (map g.S.AsStr.text c.args.words.now)) _ (workers_is g c)

pub returns-in-Ok-clause-clients : goal.returns-in-Ok-clause-clients
returns-in-Ok-clause-clients g c = c.unwrap_or-in-Ok-2.ensures ∙ or_default 1 64 1 (serve_text (codes "clients") (map g.S.AsStr.text c.args.words.now)) _ (clients_is g c)

pub returns-in-Ok-clause-serve : goal.returns-in-Ok-clause-serve
returns-in-Ok-clause-serve g c = (serve_is g c).said

pub returns-in-Ok-clause-idle : goal.returns-in-Ok-clause-idle
returns-in-Ok-clause-idle g c = (idle_is g c).said

pub returns-in-Ok-clause-forget : goal.returns-in-Ok-clause-forget
returns-in-Ok-clause-forget g c = c.unwrap_or-in-Ok-3.ensures ∙ or_default 0 (2 ^ 40) 8388608 (serve_text (codes "forget") (map g.S.AsStr.text c.args.words.now)) _ (forget_is g c)

at_most : (o : Option ℕ) → IfSome o (λ n. (0 ≤ n) × (n ≤ 1000000)) → IfSome o (λ k. k ≤ 1000000)
at_most None h = tt
at_most (Some n) h = h.1

pub returns-in-Ok-clause-range : goal.returns-in-Ok-clause-range
returns-in-Ok-clause-range g c =
    let words = map g.S.AsStr.text c.args.words.now in
    let port = default_within 0 65535 0 (serve_text (codes "port") words) _ (port_is g c) (omega arith) (omega arith) in
    let workers = default_within 1 64 1 (serve_text (codes "workers") words) _ (workers_is g c) (omega arith) (omega arith) in
    let clients = default_within 1 64 1 (serve_text (codes "clients") words) _ (clients_is g c) (omega arith) (omega arith) in
    let forget = default_within 0 (2 ^ 40) 8388608 (serve_text (codes "forget") words) _ (forget_is g c) (omega arith) (omega arith) in
    rw (c.unwrap_or.ensures, c.unwrap_or-in-Ok.ensures, c.unwrap_or-in-Ok-2.ensures, c.unwrap_or-in-Ok-3.ensures) (port.1, workers.0, workers.1, clients.0, clients.1, at_most _ (serve_is g c).within, (idle_is g c).within, forget.1)

pub returns-in-Err-clause-refusals : goal.returns-in-Err-clause-refusals
unfolding serve_refusals
returns-in-Err-clause-refusals g c =
    let port_is : rule_of c.port.result ≡ wanted (option (codes "port") (between 0 65535)) = c.port.ensures.ruled in
    let workers_is : rule_of c.threads-workers.result ≡ wanted (option (codes "workers") (between 1 64)) = c.threads-workers.ensures.ruled in
    let clients_is : rule_of c.threads-clients.result ≡ wanted (option (codes "clients") (between 1 64)) = c.threads-clients.ensures.ruled in
    let serve_is : rule_of c.connections.result ≡ option (codes "serve") (between 0 1000000) = c.connections.ensures.ruled in
    let idle_is : rule_of c.idle.result ≡ option (codes "idle") (between 1 86400) = c.idle.ensures.ruled in
    let forget_is : rule_of c.forget.result ≡ option (codes "forget") values = c.forget.ensures.ruled in
    let versioned_is : app_of c.version.result ≡ versioned (codes "cqld") = ap app_of_fields c.version.ensures ∙ ap (on_top (λ s. record s { has_version = true })) c.new.ensures.app in
    let is : app_of c.in_ok-command.command ≡ cqld = c.in_ok-command.ensures.shape (search rules) ∙ ap₂ with_rule (c.in_ok-arg-5.ensures.shape (search rules) ∙ ap₂ with_rule (c.in_ok-arg-4.ensures.shape (search rules) ∙ ap₂ with_rule (c.in_ok-arg-3.ensures.shape (search rules) ∙ ap₂ with_rule (c.in_ok-arg-2.ensures.shape (search rules)
    ∙ ap₂ with_rule (c.in_ok-arg.ensures.shape (search rules) ∙ ap₂ with_rule versioned_is port_is) workers_is) clients_is) serve_is) idle_is) forget_is in
    subst (λ (a : App). HasKind (fault_of a (map g.S.AsStr.text c.args.words.now)) c.in-Err.error) is (c.in-Err.ensures.kinds (ap is_simple_and_free is ∙ is_free))

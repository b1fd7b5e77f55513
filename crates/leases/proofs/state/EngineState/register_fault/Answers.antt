use Rattle.std.proofs.Common.{◌≡◌, ◌∙◌, is_some, length, ap, arith}
use Rattle.names.specs.Faults.{first_of}
use Rattle.reference.specs.Commands.{count_undropped, new_query_tests}
use Rattle.reference.specs.Machine.{query_named}
use Rattle.leases.specs.Shown.{engine_in}
use Rattle.leases.specs.Undropped.{UndroppedQueries}
use Rattle.leases.proofs.AddLemmas.{many_told}
use Rattle.leases.proofs.state.EngineState.register_fault.Goals as goal

pub returns-clause-first : goal.returns-clause-first
returns-clause-first c =
    let m = (engine_in c.args.self.now).machine in
    let name = c.args.name.now in
    let named = c.names-names.ensures ∙ ap (λ (u : UndroppedQueries). u.names) c.requires.named in
    let many = many_told c.args.self.now.registered.items in
    let len : c.len.result ≡ length m.queries = omega (arith, many, c.len.ensures, c.args.self.now.registered.ok) in
    c.register_fault.ensures.first
    ∙ ap (λ b. first_of (new_query_tests b c.count_undropped-undropped.result c.len.result name)) (c.is_some-is_taken.ensures ∙ ap is_some (c.query_place.ensures m.queries named))
    ∙ ap (λ u. first_of (new_query_tests (is_some (query_named m name)) u c.len.result name)) (c.count_undropped-undropped.ensures m.queries named)
    ∙ ap (λ n. first_of (new_query_tests (is_some (query_named m name)) (count_undropped m) n name)) len

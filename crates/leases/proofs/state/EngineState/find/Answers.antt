use Rattle.std.proofs.Common.{◌≡◌, Ok, subst}
use Rattle.std.specs.Prelude.{IfOk}
use Rattle.std.specs.Option.{option_copied}
use Rattle.cql_reader.specs.Query as syntax
use Rattle.cql_reader.specs.Judging.{reading}
use Rattle.names.specs.Resolved.{widths}
use Rattle.plan.specs.Chart.{given_by}
use Rattle.reference.specs.Commands.{found_of}
use Rattle.reference.specs.Finds.{Finds}
use Rattle.leases.specs.Shown.{engine_in}
use Rattle.leases.proofs.BegunLemmas.{plan_found}
use Rattle.leases.proofs.state.EngineState.find.Goals as goal

pub returns-clause-plan : goal.returns-clause-plan
returns-clause-plan c =
    let given = given_by (option_copied c.args.chart) in
    plan_found (engine_in c.args.self.now).machine c.args.text.now given c.find_plan.result
    (subst (λ k. Finds (found_of k given (reading c.args.text.now)) c.find_plan.result) c.in_ok-catalog.ensures.catalog c.find_plan.ensures.finds)
    (subst (λ k. IfOk c.find_plan.result (λ p. (query : syntax.Query) → reading c.args.text.now ≡ Ok query → p.widths.items ≡ widths query k)) c.in_ok-catalog.ensures.catalog c.find_plan.ensures.widths)

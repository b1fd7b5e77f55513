use Rattle.std.proofs.Common.{◌≤◌, length, subst}
use Rattle.std.specs.Option.{option_copied}
use Rattle.cql_reader.specs.Judging.{reading}
use Rattle.plan.specs.Chart.{given_by}
use Rattle.reference.specs.Commands.{found_of}
use Rattle.reference.specs.Finds.{Finds}
use Rattle.reference.proofs.NamedLemmas.{each_of}
use Rattle.reference.proofs.plain.Plain.find.Goals as goal

pub find_plan-requires : goal.find_plan-requires
find_plan-requires c = record { few = each_of (λ s. length s.columns ≤ 8) c.args.self.now.catalog c.args.self.now.few }

pub returns-clause-finds : goal.returns-clause-finds
returns-clause-finds c =
    subst (λ k. Finds (found_of k (given_by (option_copied c.args.chart)) (reading c.args.text.now)) c.find_plan.result) c.args.self.now.declared c.find_plan.ensures.finds

-- TO BELIEVE: the theorem rests on these definitions, and no proof can check them.
-- The texts of faults.
use Rattle.std.specs.Prelude.{ℕ, List, codes}
use Rattle.names.specs.FaultTexts as names
use Rattle.plan.specs.declared.fault.PlanFault.{PlanFault}
use Rattle.plan.specs.declared.fault.PlanFault.TheVariants.{Unresolved, BadChart}

abbrev pub fault_text : PlanFault → List ℕ
fault_text (Unresolved fault) = names.fault_text fault
fault_text BadChart = codes "Q14 BadChart"

-- TO BELIEVE: the theorem rests on these definitions, and no proof can check them.
-- The first fault of a query with its chart.
use Rattle.std.specs.Prelude.{Bool, true, false, ℤ, Option, Some, None, List, length}
use Rattle.cql_reader.specs.Query as syntax
use Rattle.names.specs.Catalog.{Stream}
use Rattle.names.specs.Faults as names
use Rattle.names.specs.Resolved.{resolved, widths}
use Rattle.names.specs.declared.fault.ResolveFault.{ResolveFault}
use Rattle.plan.specs.Build.{plan_of}
use Rattle.plan.specs.Chart.{is_bad_chart}
use Rattle.plan.specs.declared.fault.PlanFault.{PlanFault}
use Rattle.plan.specs.declared.fault.PlanFault.TheVariants.{Unresolved, BadChart}

-- the chart is tested after the names
abbrev pub after_names : Option ResolveFault → Bool → Option PlanFault
after_names (Some fault) is_bad = Some (Unresolved fault)
after_names None true = Some BadChart
after_names None false = None

-- the first fault of a query over a catalog, with what its chart gives
abbrev pub first_fault : syntax.Query → List Stream → Option (List (ℤ × ℤ)) → Option PlanFault
first_fault q catalog given =
    after_names (names.first_fault q catalog)
    (is_bad_chart (length (plan_of (widths q catalog) (resolved q catalog))) given)

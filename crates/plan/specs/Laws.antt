-- What is promised of plans.
use Rattle.std.specs.Prelude.{◌≡◌, ◌<◌, None, List, length}
use Rattle.values.specs.Row.{Row}
use Rattle.values.specs.Answers.{body}
use Rattle.cql_reader.specs.Query.{Query}
use Rattle.names.specs.Catalog.{Stream}
use Rattle.names.specs.Resolved.{resolved, widths}
use Rattle.names.specs.Faults.{first_fault}
use Rattle.plan.specs.Values.{plan_value}
use Rattle.plan.specs.Build.{plan_of}
use Rattle.plan.specs.Scope.{Tables}

-- on any bags of the windows, whose rows have the widths of the
-- sources, the value of the plan is the relation that the query means
abbrev pub PlansAreRight : Type 0
PlansAreRight =
    (q : Query) (catalog : List Stream) (shown : List (List Row)) → 0 < length q.sources
    → first_fault q catalog ≡ None → Tables (widths q catalog) shown
    → plan_value (plan_of (widths q catalog) (resolved q catalog)) shown
    ≡ body (resolved q catalog) shown

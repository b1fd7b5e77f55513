-- Plans of worked queries over the streams S(a), A(k), B(k, v), C(v).
use Rattle.std.specs.Prelude.{◌≡◌, ℕ, Option, Some, None, ℤ, pos, List, [], ◌∷◌, refl}
use Rattle.values.specs.Condition.{Field, Number, Compared, Or}
use Rattle.values.specs.declared.resolved.Compare.TheVariants.{Equals, Above}
use Rattle.values.specs.Answers.{Istream}
use Rattle.cql_reader.specs.Query.{Query, All}
use Rattle.names.specs.Examples.{declared, three, partly, of, query}
use Rattle.names.specs.Resolved.{resolved, widths}
use Rattle.plan.specs.Nodes.{Node, Window, Select, Join, Project, ToStream}
use Rattle.plan.specs.Values.{plan_value}
use Rattle.plan.specs.Build.{at, plan_of}
use Rattle.plan.specs.Faults.{first_fault}
use Rattle.plan.specs.declared.fault.PlanFault.TheVariants.{BadChart}

abbrev planned : Query → List Node
planned q = plan_of (widths q declared) (resolved q declared)

-- Select Istream(*) From S
abbrev simple : Query
simple = query All (of 83 ∷ []) None []

simple_plan : planned simple ≡ Window 0 ∷ Project 0 (at 0 ∷ []) ∷ ToStream 1 Istream ∷ []
simple_plan = refl

three_plan : planned three
    ≡ Window 0 ∷ Window 1 ∷ Window 2 ∷ Join 0 1 (record { left = 0; right = 0 } ∷ [])
    ∷ Join 3 2 (record { left = 2; right = 0 } ∷ [])
    ∷ Project 4 (at 0 ∷ at 3 ∷ []) ∷ ToStream 5 Istream ∷ []
three_plan = refl

-- what remains is a Select after the Join
partly_plan : planned partly
    ≡ Window 0 ∷ Window 1 ∷ Join 0 1 (record { left = 0; right = 0 } ∷ [])
    ∷ Select 2 (Or (Compared (Field (at 2)) Above (Number (pos 5)))
    (Compared (Field (at 0)) Equals (Number (pos 2))) ∷ [])
    ∷ Project 3 (at 0 ∷ at 1 ∷ at 2 ∷ []) ∷ ToStream 4 Istream ∷ []
partly_plan = refl

abbrev num : ℕ → Option ℤ
num n = Some (pos n)

-- null keys join nothing
partly_value : plan_value (planned partly)
    (((num 1 ∷ []) ∷ (num 2 ∷ []) ∷ (None ∷ []) ∷ [])
    ∷ ((num 1 ∷ num 4 ∷ []) ∷ (num 1 ∷ num 9 ∷ []) ∷ (num 2 ∷ num 3 ∷ [])
    ∷ (None ∷ num 9 ∷ []) ∷ []) ∷ [])
    ≡ (num 1 ∷ num 1 ∷ num 9 ∷ []) ∷ (num 2 ∷ num 2 ∷ num 3 ∷ []) ∷ []
partly_value = refl

-- a chart of another length than the plan, and a root that leaves a size
short_chart : first_fault simple declared (Some ((pos 1, pos 0) ∷ (pos 1, pos 0) ∷ []))
    ≡ Some BadChart
short_chart = refl

size_at_the_root : first_fault simple declared
    (Some ((pos 1, pos 0) ∷ (pos 1, pos 0) ∷ (pos 1, pos 1) ∷ [])) ≡ Some BadChart
size_at_the_root = refl

right_chart : first_fault simple declared
    (Some ((pos 1, pos 900000) ∷ (pos 1, pos 100000) ∷ (pos 1, pos 0) ∷ [])) ≡ None
right_chart = refl

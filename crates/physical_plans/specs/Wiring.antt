-- Which operator of a plan takes what another puts out.
use Rattle.std.specs.Prelude.{ℕ, suc, ◌==◌, cond, Option, Some, None, List, [], ◌∷◌, map, length}
use Rattle.std.specs.List.{range_with_len}
use Rattle.column.specs.declared.batch.Side.{Side}
use Rattle.column.specs.declared.batch.Side.TheVariants.{Left, Right}
use Rattle.plan.specs.Nodes.{Node, Window, Select, Join, Project, Group, Distinct, ToStream}
use Rattle.physical_plans.specs.declared.wiring.Wire.{Wire}

-- on which side the operator takes the rows of the one with the number i, if it does
abbrev pub on_left : ℕ → ℕ → Option Side
on_left input i = cond (input == i) (Some Left) None

abbrev pub takes_on : ℕ → Node → Option Side
takes_on i (Window s) = None
takes_on i (Select input cs) = on_left input i
takes_on i (Join left right keys) =
    cond (left == i) (Some Left) (cond (right == i) (Some Right) None)
takes_on i (Project input columns) = on_left input i
takes_on i (Group input by items) = on_left input i
takes_on i (Distinct input) = on_left input i
takes_on i (ToStream input op) = on_left input i

-- of the nodes from the number n on the first that takes the rows
-- of the one with the number i; behind the last where none does
abbrev pub wire_or : ℕ → Wire → Option Side → Wire
wire_or n later None = later
wire_or n later (Some side) = record { to = n; side = side }

abbrev pub wire_from : ℕ → List Node → ℕ → Wire
wire_from n [] i = record { to = n; side = Left }
wire_from n (node ∷ nodes) i = wire_or n (wire_from (suc n) nodes i) (takes_on i node)

-- where the outputs of each operator go; a root's go to no operator
abbrev pub wires_of : List Node → List Wire
wires_of nodes = map (wire_from 0 nodes) (range_with_len 0 (length nodes))

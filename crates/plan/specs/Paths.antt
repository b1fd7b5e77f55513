-- TO BELIEVE: the theorem rests on these definitions, and no proof can check them.
-- The paths of a plan, and the slopes of its operators
-- (Chain: Babcock, Babu, Datar and Motwani, SIGMOD 2003).
use Rattle.std.specs.Prelude.{ℕ, suc, ◌+◌, ◌==◌, Bool, true, false, cond, ◌||◌, List, [], ◌∷◌, map}
use Rattle.std.specs.Prelude.{fold, length, slice_index_or}
use Rattle.std.specs.List.{range_with_len}
use Rattle.envelope.specs.declared.chart.Point.{Point}
use Rattle.envelope.specs.Chart.{full_size}
use Rattle.envelope.specs.Fraction.{Fraction, fraction}
use Rattle.envelope.specs.Formula.{greater, slopes_of}
use Rattle.plan.specs.Nodes.{Node, Window, Select, Join, Project, Group, Distinct, ToStream}
use Rattle.plan.specs.Chart.{measure}
use Rattle.plan.specs.declared.chart.Measure.{Measure}

-- whether an operator takes the rows of the operator i
abbrev pub takes : ℕ → Node → Bool
takes i (Window s) = false
takes i (Select input cs) = input == i
takes i (Join left right ks) = (left == i) || (right == i)
takes i (Project input columns) = input == i
takes i (Group input by items) = input == i
takes i (Distinct input) = input == i
takes i (ToStream input op) = input == i

abbrev pub is_window : Node → Bool
is_window (Window s) = true
is_window (Select input cs) = false
is_window (Join left right ks) = false
is_window (Project input columns) = false
is_window (Group input by items) = false
is_window (Distinct input) = false
is_window (ToStream input op) = false

-- the operators to which the rows of the operator i come, one after
-- the other, among operators of which the first has the number n
abbrev pub onward : ℕ → ℕ → List Node → List ℕ
onward i n [] = []
onward i n (x ∷ xs) = cond (takes i x) (n ∷ onward n (suc n) xs) (onward i (suc n) xs)

-- the path of the operator i: from it to the root
abbrev pub path_from : List Node → ℕ → List ℕ
path_from nodes i = i ∷ onward i 0 nodes

-- the windows among operators of which the first has the number n
abbrev pub windows : ℕ → List Node → List ℕ
windows n [] = []
windows n (x ∷ xs) = cond (is_window x) (n ∷ windows (suc n) xs) (windows (suc n) xs)

-- each operator adds its cost to the time, and leaves its size
abbrev pub points_after : ℕ → List Measure → List Point
points_after t [] = []
points_after t (m ∷ ms) = record { t = t + m.cost; s = m.size } ∷ points_after (t + m.cost) ms

abbrev pub measures_on : List Measure → List ℕ → List Measure
measures_on measures path = map (λ i. slice_index_or measures i (measure 0 0)) path

-- the points of a path, from the time 0 and the full size on
abbrev pub points_of : List Measure → List ℕ → List Point
points_of measures path = record { t = 0; s = full_size }
    ∷ points_after 0 (measures_on measures path)

abbrev pub nought : Fraction
nought = fraction 0 1

-- the slope of the operator k on a path of these slopes;
-- nought where the path does not lead through it
abbrev pub slope_on : ℕ → List ℕ → List Fraction → Fraction
slope_on k [] slopes = nought
slope_on k (i ∷ path) [] = nought
slope_on k (i ∷ path) (s ∷ slopes) = cond (i == k) s (slope_on k path slopes)

abbrev pub slope_from : List Node → List Measure → ℕ → ℕ → Fraction
slope_from nodes measures k w =
    slope_on k (path_from nodes w) (slopes_of (points_of measures (path_from nodes w)))

-- an operator's slope is the greatest of its slopes on the paths of the sources
abbrev pub slope_of : List Node → List Measure → ℕ → Fraction
slope_of nodes measures k = fold greater nought
    (map (slope_from nodes measures k) (windows 0 nodes))

abbrev pub plan_slopes : List Node → List Measure → List Fraction
plan_slopes nodes measures = map (slope_of nodes measures) (range_with_len 0 (length nodes))

-- How many rows the bags have that operators of a query have taken and put out, at any moment.
use Rattle.std.specs.Prelude.{ℕ, suc, ◌≡◌, ◌+◌, ◌*◌, ◌-◌, ◌≤◌, ◌^◌, ◌++◌, true, false, List, []}
use Rattle.std.specs.Prelude.{◌∷◌, length, max, get_or}
use Rattle.values.specs.Row.{Row}
use Rattle.values.specs.Window.{Element}
use Rattle.op_queue.specs.Entries.{Entry, RowAt, TickAt}
use Rattle.op_queue.specs.Signed.{weigh}
use Rattle.plan.specs.Nodes as plan
use Rattle.reference.specs.Commands.{rows_of_each}
use Rattle.laws_dataflow.specs.Windows.{opened}
use Rattle.laws_dataflow.specs.Nets.{World, Cell, Input, at_window, at_unary, at_join, left_of}
use Rattle.laws_dataflow.specs.Nets.{right_of}
use Rattle.laws_dataflow.specs.Operators.{node_of}

abbrev pub count : List Row → ℕ
count rows = weigh (λ r. 1) rows

-- a bag of n rows never has more than `most` on the way through the queue
abbrev pub StaysWithin : ℕ → ℕ → List (Entry Row) → Type 0
StaysWithin most n [] = n ≤ most
StaysWithin most n (RowAt t (true, r) ∷ q) = (n ≤ most) × StaysWithin most (n + 1) q
StaysWithin most n (RowAt t (false, r) ∷ q) = (n ≤ most) × StaysWithin most (n - 1) q
StaysWithin most n (TickAt t ∷ q) = (n ≤ most) × StaysWithin most n q

-- how many sources a plan reads
abbrev pub sources_of : List plan.Node → ℕ
sources_of [] = 0
sources_of (plan.Window s ∷ ns) = suc (sources_of ns)
sources_of (plan.Select i cs ∷ ns) = sources_of ns
sources_of (plan.Join i j ks ∷ ns) = sources_of ns
sources_of (plan.Project i columns ∷ ns) = sources_of ns
sources_of (plan.Group i by items ∷ ns) = sources_of ns
sources_of (plan.Distinct i ∷ ns) = sources_of ns
sources_of (plan.ToStream i op ∷ ns) = sources_of ns

-- the rows of each source that may count
abbrev pub source_rows : List plan.Node → ℕ
source_rows ns = rows_of_each (sources_of ns)

-- AT TICKS an operator has put out at most so many rows, by those of its inputs, where
-- `most` rows of each source count; without Group By there is one group of no rows
abbrev pub tick_rows_by : ℕ → (ℕ → ℕ) → plan.Node → ℕ
tick_rows_by most f (plan.Window s) = most
tick_rows_by most f (plan.Select i cs) = f i
tick_rows_by most f (plan.Join i j ks) = f i * f j
tick_rows_by most f (plan.Project i columns) = f i
tick_rows_by most f (plan.Group i by items) = max 1 (f i)
tick_rows_by most f (plan.Distinct i) = f i
tick_rows_by most f (plan.ToStream i op) = f i

-- those of all operators, from those of the ones that are done
abbrev pub rows_of : ((ℕ → ℕ) → plan.Node → ℕ) → List ℕ → List plan.Node → List ℕ
rows_of by done [] = done
rows_of by done (n ∷ ns) = rows_of by (done ++ by (λ i. get_or done i 0) n ∷ []) ns

abbrev pub tick_rows : List plan.Node → ℕ → ℕ
tick_rows ns k = get_or (rows_of (tick_rows_by (source_rows ns)) [] ns) k 0

-- AT ANY MOMENT: in the middle of a tick groups have put out old rows and new ones
abbrev pub most_rows_by : List plan.Node → (ℕ → ℕ) → plan.Node → ℕ
most_rows_by ns f (plan.Window s) = source_rows ns
most_rows_by ns f (plan.Select i cs) = f i
most_rows_by ns f (plan.Join i j ks) = f i * f j
most_rows_by ns f (plan.Project i columns) = f i
most_rows_by ns f (plan.Group i by items) = max 1 (tick_rows ns i) + max 1 (tick_rows ns i)
most_rows_by ns f (plan.Distinct i) = tick_rows ns i + tick_rows ns i
most_rows_by ns f (plan.ToStream i op) = f i

abbrev pub most_rows : List plan.Node → ℕ → ℕ
most_rows ns k = get_or (rows_of (most_rows_by ns) [] ns) k 0

-- a window holds, awaits and has open no more elements than came
pub record AreWindowRowsFew (most c came : ℕ) (input held waiting : List Element) : Type 0 where
  pub few : length held + (length waiting + length (opened c input)) ≤ came
  pub stream : came ≤ most

-- the operator k, of a node below the root: what it
-- has taken, and takes on the way through its queue
abbrev pub AreFew : World → List plan.Node → plan.Node → Cell → Type 0
AreFew w ns (plan.Window s) (at_window h e b q n) =
    AreWindowRowsFew (source_rows ns) (w.closed s) (w.came s) (w.inputs s) h e
AreFew w ns (plan.Window s) (at_unary q i b n) = ⊥
AreFew w ns (plan.Window s) (at_join q r l m b n x y) = ⊥
AreFew w ns (plan.Select i cs) (at_window h e b q n) = ⊥
AreFew w ns (plan.Select i cs) (at_unary q t b n) = StaysWithin (most_rows ns i) (count t) q
AreFew w ns (plan.Select i cs) (at_join q r l m b n x y) = ⊥
AreFew w ns (plan.Join i j ks) (at_window h e b q n) = ⊥
AreFew w ns (plan.Join i j ks) (at_unary q t b n) = ⊥
AreFew w ns (plan.Join i j ks) (at_join q r l m b n x y) =
    StaysWithin (most_rows ns i) (count l) q × StaysWithin (most_rows ns j) (count m) r
AreFew w ns (plan.Project i columns) (at_window h e b q n) = ⊥
AreFew w ns (plan.Project i columns) (at_unary q t b n) = StaysWithin (most_rows ns i) (count t) q
AreFew w ns (plan.Project i columns) (at_join q r l m b n x y) = ⊥
AreFew w ns (plan.Group i by items) (at_window h e b q n) = ⊥
AreFew w ns (plan.Group i by items) (at_unary q t b n) =
    StaysWithin (most_rows ns i) (count t) q × (count b ≤ max 1 (tick_rows ns i))
AreFew w ns (plan.Group i by items) (at_join q r l m b n x y) = ⊥
AreFew w ns (plan.Distinct i) (at_window h e b q n) = ⊥
AreFew w ns (plan.Distinct i) (at_unary q t b n) =
    StaysWithin (most_rows ns i) (count t) q × (count b ≤ tick_rows ns i)
AreFew w ns (plan.Distinct i) (at_join q r l m b n x y) = ⊥
AreFew w ns (plan.ToStream i op) c = ⊥

-- what is known of the operator k and its inputs, which have these values at the ticks
pub record HasRoom (ns : List plan.Node) (k : ℕ) (node : plan.Node) (d e : Input) : Type 0 where
  pub most : most_rows ns k ≡ most_rows_by ns (most_rows ns) node
  pub left : (t : ℕ) → count (d.values t) ≤ tick_rows ns (left_of (node_of node))
  pub right : (t : ℕ) → count (e.values t) ≤ tick_rows ns (right_of (node_of node))
  pub at_ticks : (i : ℕ) → tick_rows ns i ≤ 2 ^ 60
  pub always : (i : ℕ) → most_rows ns i ≤ 2 ^ 61

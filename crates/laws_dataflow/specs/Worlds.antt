-- What happens outside of turns: a heartbeat closes
-- instants, elements are appended, old ones are forgotten.
use Rattle.std.specs.Prelude.{ℕ, ◌≤◌, ◌<◌, ◌≡◌, List, ◌++◌}
use Rattle.values.specs.Row.{Row}
use Rattle.values.specs.Perm.{Perm}
use Rattle.values.specs.Window.{Element, window_rows}
use Rattle.op_queue.specs.Entries.{Entry}
use Rattle.op_queue.specs.Signed.{Same}
use Rattle.windows.specs.Laws.{IsRising}
use Rattle.laws_dataflow.specs.Windows.{Brings, opened, AreFrom, AreBelow, GoodWindow}
use Rattle.laws_dataflow.specs.Nets.{World, bag_at, Node, window, unary, join, Cell, at_window}
use Rattle.laws_dataflow.specs.Nets.{at_unary, at_join}

-- HEARTBEATS

-- the world with other closed instants
abbrev pub heartbeat_taken : World → (ℕ → ℕ) → World
heartbeat_taken w closed2 = record {
  first = w.first;
  windows = w.windows;
  inputs = w.inputs;
  closed = closed2;
  came = w.came;
}

-- of each source the instants from closed to closed2 are closed, and these
-- entries, which bring these elements, go to the end of its window's queue
pub record Beat (w : World) (closed2 : ℕ → ℕ) (fresh : ℕ → List Element)
    (more : ℕ → List (Entry Row)) : Type 0 where
  pub brings : (k : ℕ) → Brings (w.closed k) (more k) (fresh k) (closed2 k)
  pub rising : (k : ℕ) → IsRising (fresh k)
  pub below : (k : ℕ) → AreBelow (closed2 k) (fresh k)
  pub parted : (k : ℕ) → Perm (opened (w.closed k) (w.inputs k))
      (fresh k ++ opened (closed2 k) (w.inputs k))

-- the operator with these entries at the end of its queue, if it is a window
abbrev pub fed_cell : (ℕ → List Element) → (ℕ → List (Entry Row)) → Node → Cell → Cell
fed_cell fresh more (window x) (at_window h e o q n) = at_window h (e ++ fresh x) o (q ++ more x) n
fed_cell fresh more (window x) (at_unary q i o n) = at_unary q i o n
fed_cell fresh more (window x) (at_join q r l m o n a b) = at_join q r l m o n a b
fed_cell fresh more (unary f x) c = c
fed_cell fresh more (join f x y) c = c

-- OTHER INPUTS

-- the world u shows the instants from lo on that are closed in w as w
-- does, and a window that goes on from what it holds in w goes on in u
pub record Change (w u : World) (lo : ℕ) : Type 0 where
  pub agree : (k t : ℕ) → lo ≤ t → t < w.closed k → Same (bag_at w k t) (bag_at u k t)
  pub windows : (k : ℕ) (h e : List Element) (n : ℕ) (q : List (Entry Row)) → lo ≤ n
      → GoodWindow w.first (w.windows k) (w.inputs k) (w.closed k) h e n q
      → GoodWindow u.first (u.windows k) (u.inputs k) (u.closed k) h e n q

-- the elements es k come to the input of each source k
abbrev pub appended : World → (ℕ → List Element) → World
appended w es = record {
  first = w.first;
  windows = w.windows;
  inputs = λ k. w.inputs k ++ es k;
  closed = w.closed;
  came = w.came;
}

-- the inputs are replaced by what is kept of them
abbrev pub forgotten : World → (ℕ → List Element) → World
forgotten w kept = record {
  first = w.first;
  windows = w.windows;
  inputs = kept;
  closed = w.closed;
  came = w.came;
}

-- what is kept shows the same from the mark on, whatever comes later
pub record Keeps (w : World) (kept : ℕ → List Element) (mark : ℕ) : Type 0 where
  pub shows : (k t : ℕ) (later : List Element) → AreFrom (w.closed k) later → mark ≤ t
      → Same (window_rows w.first (w.windows k) t (kept k ++ later))
      (window_rows w.first (w.windows k) t (w.inputs k ++ later))
  pub open_kept : (k : ℕ) → opened (w.closed k) (kept k) ≡ opened (w.closed k) (w.inputs k)

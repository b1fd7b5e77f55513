-- The root of a query, and what was given of its answers.
use Rattle.std.specs.Prelude.{◌+◌, ℕ, zero, suc, ◌-◌, ◌<◌, ◌≤◌, ◌≡◌, cond, nat_le, List, [], ◌++◌}
use Rattle.std.specs.Prelude.{map}
use Rattle.std.specs.List.{flat_map, range_with_len}
use Rattle.values.specs.Row.{Row, row_cmp}
use Rattle.values.specs.Bag.{in_order}
use Rattle.values.specs.Answers.{StreamOperator, streamed}
use Rattle.values.specs.StreamOperators.{operator_of}
use Rattle.op_queue.specs.Entries.{Entry}
use Rattle.op_queue.specs.Paths.{Leads}
use Rattle.op_queue.specs.Signed.{Same}
use Rattle.to_stream.specs.Turns.{State}
use Rattle.to_stream.specs.Law.{Stands}
use Rattle.laws_dataflow.specs.Nets.{Node, World, Cell, cell_shown, cell_next, IdleCell, GoodAt}
use Rattle.laws_dataflow.specs.Roots.{behind}

-- ANSWERS BY THE VALUES of the relation at the instants; below the first instant it is empty

abbrev pub before : ℕ → (ℕ → List Row) → ℕ → List Row
before first v zero = []
before first v (suc t) = cond (nat_le first t) (v t) []

-- the answers at the instant t
abbrev pub given_at : StreamOperator → ℕ → (ℕ → List Row) → ℕ → List (ℕ × Row)
given_at op first v t = map (λ r. (t, r)) (in_order row_cmp (streamed op (before first v t) (v t)))

-- the answers at the instants from `start` to below `until`
abbrev pub given_from : StreamOperator → ℕ → (ℕ → List Row) → ℕ → ℕ → List (ℕ × Row)
given_from op first v start until =
    flat_map (given_at op first v) (range_with_len start (until - start))

-- THE ROOT: its state and queue, over an operator that has put out the bag `below` and stands at
-- the open instant m. It has given `earlier`, and behind it the answers from the instant `start` on
pub record GoodRoot (first start : ℕ) (earlier : List (ℕ × Row)) (v : ℕ → List Row) (s : State)
    (q : List (Entry Row)) (below : List Row) (m : ℕ) (given : List (ℕ × Row)) : Type 0 where
  -- the relation that it has taken, the one at its last tick, and its open instant
  pub whole : List Row
  pub last : List Row
  pub opens : ℕ
  pub edge : Leads v whole opens q below m
  pub began : first ≤ start
  pub going : start ≤ opens
  pub mark : opens ≡ behind first s.last
  pub stands : Stands s last whole
  pub last_is : Same last (before first v opens)
  pub given_is : given ≡ earlier ++ given_from (operator_of s.operator) first v start opens

-- A QUERY: the operators below the root, by their numbers, and the root over the last of them
pub record GoodQuery (w : World) (nodes : ℕ → Node) (count : ℕ) (v : ℕ → ℕ → List Row) (start : ℕ)
    (earlier : List (ℕ × Row)) (cells : ℕ → Cell) (s : State) (q : List (Entry Row))
    (given : List (ℕ × Row)) : Type 0 where
  pub good : (k : ℕ) → k < count → GoodAt w nodes v cells k
  pub root : GoodRoot w.first start earlier (v (count - 1)) s q (cell_shown (cells (count - 1)))
      (cell_next (cells (count - 1))) given

-- nothing in it is ready
pub record Idle (count : ℕ) (cells : ℕ → Cell) (q : List (Entry Row)) : Type 0 where
  pub inner : (k : ℕ) → k < count → IdleCell (cells k)
  pub root : q ≡ []

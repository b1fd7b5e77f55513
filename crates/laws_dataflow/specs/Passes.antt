-- Instants go by at which a query has nothing to do.
use Rattle.std.specs.Prelude.{ℕ, ◌+◌, ◌-◌, ◌<◌, ◌≤◌, ◌≡◌, Bool, false, Some, List, [], ◌∷◌}
use Rattle.values.specs.Row.{Row, row_cmp}
use Rattle.values.specs.Window.{Element}
use Rattle.values.specs.Bag.{in_order}
use Rattle.values.specs.Answers.{streamed}
use Rattle.values.specs.StreamOperators.{operator_of}
use Rattle.op_queue.specs.Entries.{Entry, TickAt}
use Rattle.op_queue.specs.Signed.{Same}
use Rattle.to_stream.specs.Turns.{State}
use Rattle.to_stream.specs.Law.{Stands}
use Rattle.laws_dataflow.specs.Nets.{Node, window, unary, join, Unary, Binary, World, bag_at, Cell}
use Rattle.laws_dataflow.specs.Nets.{at_window, at_unary, at_join, cell_next, past}

-- a queue has only ticks below the instant b, and
-- this is left of it for a consumer that goes from n to b
pub data Clears (b : ℕ) : ℕ → List (Entry Row) → List (Entry Row) → Type 0 where
  reached : (n : ℕ) (q : List (Entry Row)) → b ≤ n → Clears b n q q
  ended : (n : ℕ) → n ≤ b → Clears b n [] []
  ticked : (n : ℕ) (q r : List (Entry Row)) → n < b → Clears b (n + 1) q r
      → Clears b n (TickAt n ∷ q) r

-- AN OPERATOR goes on to the instant b, if it is not there. It has nothing to do at the instants
-- before: a window shows what it has put out, an operator with one input has put out the value of
-- what it has taken
pub data Passes (w : World) (b : ℕ) : Node → Cell → Cell → Type 0 where
  stays : (node : Node) (a : Cell) → b ≤ cell_next a → Passes w b node a a
  window_passes : (k n : ℕ) (h e : List Element) (o : List Row) (q r : List (Entry Row)) → n < b
      → b ≤ w.closed k → Clears b n q r → ((t : ℕ) → n ≤ t → t < b → Same o (bag_at w k t))
      → Passes w b (window k) (at_window h e o q n) (at_window h e o r b)
  unary_passes : (f : Unary) (x n : ℕ) (i o : List Row) (q r : List (Entry Row)) → n < b
      → Clears b n q r → Same o (f.value i)
      → Passes w b (unary f x) (at_unary q i o n) (at_unary r i o b)
  join_passes : (f : Binary) (x y n : ℕ) (l m o : List Row) (q q2 r r2 : List (Entry Row))
      (c d : Bool) → n < b → Clears b (past c n) q q2 → Clears b (past d n) r r2
      → Passes w b (join f x y) (at_join q r l m o n c d) (at_join q2 r2 l m o b false false)

-- THE ROOT, which has taken the relation `whole` and has the relation `last` of its last tick:
-- nothing has changed since, and of a relation that stays nothing is given
pub record Silent (s : State) (last whole : List Row) : Type 0 where
  pub unchanged : Same last whole
  pub gives : in_order row_cmp (streamed (operator_of s.operator) whole whole) ≡ []

-- it has ticked at the instant before b
pub record Moved (s : State) (b : ℕ) (whole : List Row) (s2 : State) : Type 0 where
  pub operator : s2.operator ≡ s.operator
  pub last : s2.last ≡ Some (b - 1)
  pub stands : Stands s2 whole whole

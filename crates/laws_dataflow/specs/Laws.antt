-- What is promised of nets.
use Rattle.std.specs.Prelude.{◌≡◌, ◌≢◌, ℕ, Bool, Some, ◌<◌, List, ◌∷◌, ◌++◌}
use Rattle.values.specs.Row.{Row}
use Rattle.values.specs.StreamOperators.{operator_of}
use Rattle.op_queue.specs.Entries.{Entry, TickAt}
use Rattle.op_queue.specs.declared.item.Item.TheVariants.{Rows, Tick}
use Rattle.to_stream.specs.Turns.{State, near, out}
use Rattle.to_stream.specs.Law.{StepLaw}
use Rattle.reference.specs.Machine.{Machine, Registered, closed_answers}
use Rattle.laws_dataflow.specs.Nets.{Cell, Feeds, Turn, batch}
use Rattle.laws_dataflow.specs.Queries.{GoodQuery, Idle}
use Rattle.laws_dataflow.specs.Operators.{net_of}
use Rattle.laws_dataflow.specs.Plans.{AreWide, IsPlanOf, consumer_of, value_of}
use Rattle.laws_dataflow.specs.Roots.{below_root}
use Rattle.laws_dataflow.specs.Plans.{world_of}

-- THE QUERY as the machine has it: its operators below the root have these
-- cells, the root this state and queue, and it has given these answers
abbrev pub IsGood : Machine → Registered → (ℕ → Cell) → State → List (Entry Row)
    → List (ℕ × Row) → Type 0
IsGood m q cells s queue given =
    GoodQuery (world_of m q) (net_of q.nodes) (below_root q.nodes)
    (value_of m q) q.start q.earlier cells s queue given

-- its operators are the plan of what it means, its streams' rows
-- have the widths of its sources, and the root is its operator
pub record Stands (vs : List ℕ) (m : Machine) (q : Registered) : Type 0 where
  pub plan : IsPlanOf vs q.meaning q.nodes
  pub wide : AreWide vs m q

-- A FINISHED TURN keeps a query good
pub record TurnsKeep (m : Machine) (q : Registered) : Type 0 where
  -- of an operator whose consumer is another
  pub inner : (cells cells2 : ℕ → Cell) (s : State) (queue : List (Entry Row))
      (given : List (ℕ × Row)) (i : ℕ) (outs : List (Entry Row)) → i < below_root q.nodes
      → consumer_of q.nodes i < below_root q.nodes
      → Turn (world_of m q) (net_of q.nodes i) (cells i) outs (cells2 i)
      → Feeds i outs (net_of q.nodes (consumer_of q.nodes i)) (cells (consumer_of q.nodes i))
      (cells2 (consumer_of q.nodes i))
      → ((k : ℕ) → k < below_root q.nodes → k ≢ i → k ≢ consumer_of q.nodes i → cells2 k ≡ cells k)
      → IsGood m q cells s queue given → IsGood m q cells2 s queue given
  -- of the operator below the root
  pub last : (cells cells2 : ℕ → Cell) (s : State) (queue : List (Entry Row))
      (given : List (ℕ × Row)) (i : ℕ) (outs : List (Entry Row)) → i < below_root q.nodes
      → consumer_of q.nodes i ≡ below_root q.nodes
      → Turn (world_of m q) (net_of q.nodes i) (cells i) outs (cells2 i)
      → ((k : ℕ) → k < below_root q.nodes → k ≢ i → cells2 k ≡ cells k)
      → IsGood m q cells s queue given → IsGood m q cells2 s (queue ++ outs) given
  -- of the root at rows, and at a tick: then the answers of its instant are given
  pub root_rows : (cells : ℕ → Cell) (s new : State) (n : ℕ) (xs : List (Bool × Row))
      (queue : List (Entry Row)) (given : List (ℕ × Row)) → StepLaw s (Rows n xs) new
      → new.operator ≡ s.operator → new.last ≡ s.last
      → (g : IsGood m q cells s (batch n xs ++ queue) given) → g.root.opens ≡ n
      → IsGood m q cells new queue given
  pub root_tick : (cells : ℕ → Cell) (s new : State) (n : ℕ) (queue : List (Entry Row))
      (given : List (ℕ × Row)) → StepLaw s (Tick n) new → new.operator ≡ s.operator
      → new.last ≡ Some n
      → IsGood m q cells s (TickAt n ∷ queue) given
      → IsGood m q cells new queue (given ++ out (Tick n) (near s (Tick n)))

-- WHAT WAS GIVEN is a beginning of the answers of all instants
-- that are closed, and all of them where nothing is ready
abbrev pub GivesABeginning : Machine → Registered → Type 0
GivesABeginning m q =
    (cells : ℕ → Cell) (s : State) (queue : List (Entry Row)) (given : List (ℕ × Row))
    → operator_of s.operator ≡ q.meaning.operator → IsGood m q cells s queue given
    → (rest : List (ℕ × Row)) × (closed_answers m q ≡ given ++ rest)

abbrev pub GivesAll : Machine → Registered → Type 0
GivesAll m q =
    (cells : ℕ → Cell) (s : State) (queue : List (Entry Row)) (given : List (ℕ × Row))
    → operator_of s.operator ≡ q.meaning.operator → Idle (below_root q.nodes) cells queue
    → IsGood m q cells s queue given
    → given ≡ closed_answers m q

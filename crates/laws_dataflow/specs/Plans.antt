-- A registered query's plan as a net: the consumer of each operator,
-- the values of all, and what the machine knows of its streams.
use Rattle.std.specs.Prelude.{◌≡◌, ℕ, suc, ◌-◌, ◌<◌, cond, max, min, List, [], ◌∷◌, ◌++◌, map}
use Rattle.std.specs.Prelude.{length, get_or, slice_get}
use Rattle.values.specs.Row.{Row}
use Rattle.values.specs.Window.{Element, Window}
use Rattle.values.specs.Plain.{unbounded}
use Rattle.values.specs.Answers.{Resolved, shown_at}
use Rattle.plan.specs.Nodes as plan
use Rattle.plan.specs.Nodes.{Window as WindowNode, Select, Join, Project, Group, Distinct, ToStream}
use Rattle.plan.specs.Values.{values_of}
use Rattle.plan.specs.Build.{plan_of}
use Rattle.plan.specs.Paths.{takes}
use Rattle.plan.specs.Scope.{Scoped, Tables}
use Rattle.std.specs.Option.{option_map_or}
use Rattle.reference.specs.Machine.{Machine, Place, Registered, Stream, opens, input_at}
use Rattle.laws_dataflow.specs.Nets.{World}

-- CONSUMERS
-- the number of the first operator that takes from the operator
-- i, among operators of which the first has the number n
abbrev pub consumer : ℕ → ℕ → List plan.Node → ℕ
consumer i n [] = n
consumer i n (x ∷ xs) = cond (takes i x) n (consumer i (suc n) xs)

abbrev pub consumer_of : List plan.Node → ℕ → ℕ
consumer_of ns i = consumer i 0 ns

-- VALUES
-- the value of the operator k at the instant t, where the windows show these bags
abbrev pub value_in : List plan.Node → (ℕ → List (List Row)) → ℕ → ℕ → List Row
value_in ns bags k t = get_or (values_of (bags t) [] ns) k []

-- of an operator the least instant that is not closed in all of its sources, by those of its inputs
abbrev pub least_by : (ℕ → ℕ) → List ℕ → plan.Node → ℕ
least_by closed done (WindowNode s) = closed s
least_by closed done (Select i cs) = get_or done i 0
least_by closed done (Join i j ks) = min (get_or done i 0) (get_or done j 0)
least_by closed done (Project i columns) = get_or done i 0
least_by closed done (Group i by items) = get_or done i 0
least_by closed done (Distinct i) = get_or done i 0
least_by closed done (ToStream i op) = get_or done i 0

abbrev pub leasts_of : (ℕ → ℕ) → List ℕ → List plan.Node → List ℕ
leasts_of closed done [] = done
leasts_of closed done (n ∷ ns) = leasts_of closed (done ++ least_by closed done n ∷ []) ns

abbrev pub least_in : List plan.Node → (ℕ → ℕ) → ℕ → ℕ
least_in ns closed k = get_or (leasts_of closed [] ns) k 0

-- the world of sources with these windows, inputs and
-- open instants; instants below the first count as closed
abbrev pub world_by : ℕ → List Window → List (List Element) → List ℕ → List ℕ → World
world_by first ws inputs open_at came =
    record {
      first = first;
      windows = λ k. get_or ws k unbounded;
      inputs = λ k. get_or inputs k [];
      closed = λ k. max first (get_or open_at k 0);
      came = λ k. get_or came k 0;
    }

-- A REGISTERED QUERY OF THE MACHINE
abbrev pub inputs_of : Machine → Registered → List (List Element)
inputs_of m q = map (input_at m.streams q.first) q.places

-- how many rows ever came to the place's stream
abbrev pub arrivals_at : List Stream → Place → ℕ
arrivals_at streams p = option_map_or (λ s. s.arrivals) (slice_get streams p.stream) 0

-- how many rows came to the stream of each source since the registration
abbrev pub comes : List Stream → List Place → List ℕ
comes streams places = map (λ p. arrivals_at streams p - p.arrivals) places

abbrev pub world_of : Machine → Registered → World
world_of m q = world_by q.first q.meaning.windows (inputs_of m q) (opens m.streams q.places)
    (comes m.streams q.places)

abbrev pub bags_of : Machine → Registered → ℕ → List (List Row)
bags_of m q t = shown_at q.first q.meaning.windows t (inputs_of m q)

abbrev pub value_of : Machine → Registered → ℕ → ℕ → List Row
value_of m q = value_in q.nodes (bags_of m q)

abbrev pub least_of : Machine → Registered → ℕ → ℕ
least_of m q = least_in q.nodes (world_of m q).closed

-- the operators are the plan of what the query means,
-- over sources so wide; their streams' rows are so wide
pub record IsPlanOf (vs : List ℕ) (meaning : Resolved) (ns : List plan.Node) : Type 0 where
  pub some : 0 < length vs
  pub scoped : Scoped vs meaning
  pub is : ns ≡ plan_of vs meaning

pub record AreWide (vs : List ℕ) (m : Machine) (q : Registered) : Type 0 where
  pub places : length q.places ≡ length vs
  pub tables : (t : ℕ) → Tables vs (bags_of m q t)

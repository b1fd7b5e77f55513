-- A running query, when old elements of its streams are forgotten.
use Rattle.std.specs.Prelude.{ℕ, ◌≡◌, ◌<◌, Bool, true, ◌&&◌, nat_le, List, length}
use Rattle.values.specs.Row.{Row}
use Rattle.values.specs.Window.{Element}
use Rattle.values.specs.Needs.{is_needed}
use Rattle.reference.specs.Machine.{Machine, Registered}
use Rattle.reference.specs.Opening.{restarted, with_kept}
use Rattle.operators.specs.Ready.{PlainOperator}
use Rattle.laws_dataflow.specs.Laws as nets
use Rattle.laws_dataflow.specs.Plans.{world_of}
use Rattle.laws_queries.specs.Queries.{IsRunning}
use Rattle.laws_queries.specs.Plain.{place_of}

-- WHAT A QUERY NEEDS of each of its sources is kept; `next` is the instant after the query's mark
pub record KeepsFor (m : Machine) (q : Registered) (next : ℕ)
    (keep : ℕ → Element → Bool) : Type 0 where
  pub keeps : (k : ℕ) (e : Element) → k < length q.places
      → (nat_le (place_of q k).arrivals e.arrival && nat_le q.first e.instant) ≡ true
      → is_needed q.first ((world_of m q).windows k) next ((world_of m q).inputs k) e ≡ true
      → keep (place_of q k).stream e ≡ true

-- over the elements that are kept the query runs on, with its operators as they are:
-- its answers are those that wait, and then those from the instant after its mark on
abbrev pub RunsOnAtForgetting : List ℕ → List ℕ → Machine → Registered → Type 0
RunsOnAtForgetting vs ws m q =
    (qs : List Registered) (next : ℕ) (keep : ℕ → Element → Bool) (waiting : List (ℕ × Row))
    → KeepsFor m q next keep → (os : List PlainOperator) (given : List (ℕ × Row))
    → nets.Stands vs (record { streams = with_kept keep 0 m.streams; queries = qs }) q
    → (r : IsRunning vs ws m q os given) → r.good.root.opens ≡ next
    → IsRunning vs ws (record { streams = with_kept keep 0 m.streams; queries = qs })
    (restarted q next waiting) os waiting

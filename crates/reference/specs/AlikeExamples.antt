-- A machine and its opening, which no command tells apart.
use Rattle.std.specs.Prelude.{◌≡◌, ℕ, ℤ, false, [], ◌∷◌, List, map, Option, Some, None, pos, refl}
use Rattle.values.specs.Row.{Row}
use Rattle.values.specs.declared.reach.Reach.TheVariants.{Last}
use Rattle.values.specs.Window.{Element, Instants}
use Rattle.values.specs.Relation.{Listed}
use Rattle.values.specs.Answers.{Resolved, Istream}
use Rattle.reference.specs.declared.fault.Fault.TheVariants.{Late, StreamFull}
use Rattle.reference.specs.Machine.{Machine, Place, Registered, Stream}
use Rattle.reference.specs.Commands.{Append, Heartbeat, Take, after, first_fault}
use Rattle.reference.specs.World.{take_step, untaken}
use Rattle.reference.specs.Opening.{opening}
use Rattle.reference.specs.Alike.{bare, bare_query}

abbrev num : ℕ → Option ℤ
num n = Some (pos n)

-- Select Istream(*) From S [Range 1], of a stream S(a)
abbrev lists_a : Resolved
lists_a = record {
  windows = Instants (Last 1) ∷ [];
  condition = None;
  shape = Listed (record { source = 0; column = 0 } ∷ []);
  is_distinct =
      false;
  operator = Istream;
}

abbrev place : Place
place = record { stream = 0; arrivals = 0 }

abbrev query : Registered
query = record {
  name = 113 ∷ [];
  meaning = lists_a;
  nodes = [];
  measures = [];
  places = place ∷ [];
  first = 0;
  start = 0;
  earlier = [];
  taken = 0;
  ever_taken = 0;
  is_dropped = false;
}

abbrev asked : Machine
asked = record {
  streams = record {
    name = 83 ∷ [];
    columns = (97 ∷ []) ∷ [];
    elements = [];
    arrivals = 0;
    first_open = 0;
  } ∷ [];
  queries = query ∷ [];
}

-- three rows came, at the instants 0 to 2, which are
-- closed; the first answer was taken, and two wait
abbrev full : Machine
full = after (after (after asked
    (Append 0 ((pos 0, num 5 ∷ []) ∷ (pos 1, num 6 ∷ []) ∷ (pos 2, num 7 ∷ []) ∷ [])) 0)
    (Heartbeat 0 (pos 2)) 0) (Take 0 (pos 1)) 1

abbrev waits : List (ℕ × Row)
waits = (1, num 6 ∷ []) ∷ (2, num 7 ∷ []) ∷ []

abbrev opened : Machine
opened = opening full (Some 3 ∷ []) (waits ∷ [])

-- the first row is gone
two_are_kept : map (λ (s : Stream). map (λ (e : Element). e.arrival) s.elements) opened.streams
    ≡ (1 ∷ 2 ∷ []) ∷ []
two_are_kept = refl

-- the machines differ in rows and in answers so far alone
same_streams : map bare full.streams ≡ map bare opened.streams
same_streams = refl

same_queries : map bare_query full.queries ≡ map bare_query opened.queries
same_queries = refl

-- of both the same answers are to be taken
answers_of_all : map (untaken full) full.queries ≡ waits ∷ []
answers_of_all = refl

answers_of_the_opening : map (untaken opened) opened.queries ≡ waits ∷ []
answers_of_the_opening = refl

same_take : (take_step (record { machine = full; waiting = waits ∷ []; upto = 3 ∷ [] }) 0 (pos 1)).0
    ≡ (take_step (record { machine = opened; waiting = waits ∷ []; upto = 3 ∷ [] }) 0 (pos 1)).0
unfolding take_step
same_take = refl

-- and when one more row came and one more instant is closed
abbrev later : Machine → Machine
later m = after (after m (Append 0 ((pos 3, num 8 ∷ []) ∷ [])) 0) (Heartbeat 0 (pos 3)) 0

more_of_all : map (untaken (later full)) (later full).queries
    ≡ ((1, num 6 ∷ []) ∷ (2, num 7 ∷ []) ∷ (3, num 8 ∷ []) ∷ []) ∷ []
more_of_all = refl

more_of_the_opening : map (untaken (later opened)) (later opened).queries
    ≡ ((1, num 6 ∷ []) ∷ (2, num 7 ∷ []) ∷ (3, num 8 ∷ []) ∷ []) ∷ []
more_of_the_opening = refl

-- both refuse what comes late
late_of_all : first_fault full (Append 0 ((pos 2, num 8 ∷ []) ∷ [])) ≡ Some Late
late_of_all = refl

late_of_the_opening : first_fault opened (Append 0 ((pos 2, num 8 ∷ []) ∷ [])) ≡ Some Late
late_of_the_opening = refl

-- a row limit counts rows by their arrival, so those that were forgotten count on
abbrev crowded : Machine → Machine
crowded m = record {
  streams = map (λ (s : Stream). record s { arrivals = 1048576 }) m.streams;
  queries = map (λ (q : Registered). record q { places = place ∷ place ∷ place ∷ [] }) m.queries;
}

full_of_all : first_fault (crowded full) (Append 0 ((pos 3, num 8 ∷ []) ∷ [])) ≡ Some StreamFull
full_of_all = refl

full_of_the_opening : first_fault (crowded opened) (Append 0 ((pos 3, num 8 ∷ []) ∷ []))
    ≡ Some StreamFull
full_of_the_opening = refl

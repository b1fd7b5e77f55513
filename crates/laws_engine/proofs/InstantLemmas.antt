-- The streams of the machine close no more instants than there are, and its queries have few earlier answers, whatever it was told.
use Rattle.std.proofs.Common.{◌≡◌, ℕ, ℤ, zero, suc, pos, negsuc, ◌+◌, ◌-◌, ◌*◌, ◌^◌, ◌<◌, ◌≤◌, Bool, true, false, not, ◌&&◌, int_le, int_lt, nat_le, nat_abs, min, fold, max, Option, None, Some, List, [], ◌∷◌, ◌++◌, length, refl, sym, subst, arith, ◌+ℤ◌}
use Rattle.std.specs.Prelude.{Result, Ok, Err, slice_get}
use Rattle.std.specs.List.{AllByRecursion}
use Rattle.std.specs.Option.{is_some, option_map_or}
use Rattle.std.proofs.lemmas.Bool.{leb-true}
use Rattle.values.specs.Row.{Row}
use Rattle.cql_reader.specs.Lexis.{is_name}
use Rattle.plan.proofs.Lists.{each-append}
use Rattle.reference.specs.Commands.{Append, Command, Declare, Drop, Found, Heartbeat, Register, Take, after, appended, are_columns, change, closed_to, dropped, first_fault, found, heartbeat_tests, is_instant, of_stream, registered, registered_as, took}
use Rattle.reference.specs.Machine.{Machine, Place, Registered, Stream, first_for, opens, stream_named, until_for}
use Rattle.reference.specs.declared.fault.Fault.{Fault}
use Rattle.reference.specs.declared.fault.Fault.TheVariants.{Backward, BadColumns, BadName, InstantRange, Leap, NameTaken, TooMany}
use Rattle.reference.specs.declared.fault.QueryFault.{QueryFault}
use Rattle.reference.specs.declared.limits.TheConstants.{MAX_INSTANT, MAX_LEAP, MAX_STREAMS}
use Rattle.reference.proofs.StreamLemmas.{none_first, none_later}
use Rattle.laws_engine.specs.Bounds.{FewClosedStand, HasFewClosed, HasFewEarlier, HaveFewClosed, instants}

-- AN INSTANT of a command
and_right : (a b : Bool) → (a && b) ≡ true → b ≡ true
and_right true b h = h
and_right false b h = absurd (cc)

was_true : (b : Bool) → not b ≡ false → b ≡ true
was_true true h = refl
was_true false h = absurd (cc)

instant_few : (at : ℤ) → is_instant at ≡ true → suc (nat_abs at) ≤ instants
instant_few (pos n) h = let l : n ≤ 2 ^ 40 = leb-true n (2 ^ 40) (and_right (int_le (pos 0) (pos n)) (int_le (pos n) MAX_INSTANT) h) in omega (arith, l)
instant_few (negsuc n) h = absurd (cc)

-- ANY COMMAND that is accepted
declared_few : (m : Machine) (name : List ℕ) (columns : List (List ℕ)) (start : ℤ) → first_fault m (Declare name columns start) ≡ None → nat_abs start ≤ instants
declared_few m name columns start e =
    let many : List (Bool × Fault) = (nat_le MAX_STREAMS (length m.streams), TooMany) ∷ [] in
    let instant : List (Bool × Fault) = (not (is_instant start), InstantRange) ∷ many in
    let one = none_later (not (is_name name)) BadName ((is_some (stream_named m name), NameTaken) ∷ (not (are_columns columns), BadColumns) ∷ instant) e in
    let two = none_later (is_some (stream_named m name)) NameTaken ((not (are_columns columns), BadColumns) ∷ instant) one in
    let three = none_later (not (are_columns columns)) BadColumns instant two in
    let few : suc (nat_abs start) ≤ instants = instant_few start (was_true (is_instant start) (none_first (not (is_instant start)) InstantRange many three)) in
    omega (arith, few)

heartbeat_few : (at : ℤ) (o : Option Stream) (s : Stream) → of_stream (λ s. heartbeat_tests s at) o ≡ None → o ≡ Some s → suc (nat_abs at) ≤ instants
heartbeat_few at None s h e = absurd (cc)
heartbeat_few at (Some s2) s h e =
    let rest : List (Bool × Fault) = (int_lt at (pos s2.first_open), Backward) ∷ (int_le (pos s2.first_open +ℤ MAX_LEAP) at, Leap) ∷ [] in
    instant_few at (was_true (is_instant at) (none_first (not (is_instant at)) InstantRange rest h))

changed_each : (f : Stream → Stream) (n : ℕ) (ss : List Stream) → ((s : Stream) → slice_get ss n ≡ Some s → HasFewClosed s → HasFewClosed (f s)) → AllByRecursion HasFewClosed ss → AllByRecursion HasFewClosed (change n f ss)
changed_each f n [] g h = tt
changed_each f zero (s ∷ ss) g h = (g s refl h.0, h.1)
changed_each f (suc n) (s ∷ ss) g h = (h.0, changed_each f n ss g h.1)

-- a query that is registered has no earlier answers
none_earlier : (q : Registered) → q.earlier ≡ [] → HasFewEarlier q
none_earlier q e = record {
  early = subst (AllByRecursion (λ (a : ℕ × Row). a.0 < instants)) (sym e) tt;
  few = subst (λ (l : List (ℕ × Row)). length l + (instants - q.start) * 2 ^ 60 ≤ instants * 2 ^ 60) (sym e) (omega arith);
}

pub registered_closed : (m : Machine) (q : Registered) → q.earlier ≡ [] → HaveFewClosed m → HaveFewClosed (record m { queries = m.queries ++ q ∷ [] })
registered_closed m q e h = record { streams = h.streams; queries = each-append HasFewEarlier m.queries (q ∷ []) h.queries (none_earlier q e, tt) }

registered_few : (m : Machine) (name : List ℕ) (r : Result Found QueryFault) → HaveFewClosed m → HaveFewClosed (registered m name r)
registered_few m name (Ok f) h = registered_closed m (registered_as m name f) refl h
registered_few m name (Err fault) h = h

-- what is said of a query itself changes none of its answers
told_each : (f : Registered → Registered) (n : ℕ) (qs : List Registered) → ((q : Registered) → HasFewEarlier q → HasFewEarlier (f q)) → AllByRecursion HasFewEarlier qs → AllByRecursion HasFewEarlier (change n f qs)
told_each f n [] g h = tt
told_each f zero (q ∷ qs) g h = (g q h.0, h.1)
told_each f (suc n) (q ∷ qs) g h = (h.0, told_each f n qs g h.1)

few_after : (m : Machine) (c : Command) (count : ℕ) → first_fault m c ≡ None → HaveFewClosed m → HaveFewClosed (after m c count)
few_after m (Declare name columns start) count e h = record {
  streams = each-append HasFewClosed m.streams (record { name = name; columns = columns; elements = []; arrivals = 0; first_open = nat_abs start } ∷ []) h.streams (record { few = declared_few m name columns start e }, tt);
  queries = h.queries;
}
few_after m (Register name source given) count e h = registered_few m name (found m source given) h
few_after m (Append n rows) count e h = record { streams = changed_each (appended rows) n m.streams (λ s is i. record { few = i.few }) h.streams; queries = h.queries }
few_after m (Heartbeat n at) count e h = record {
  streams = changed_each (closed_to at) n m.streams (λ s is i. record { few = heartbeat_few at (slice_get m.streams n) s e is }) h.streams;
  queries = h.queries;
}
few_after m (Take n limit) count e h = record { streams = h.streams; queries = told_each (took count) n m.queries (λ q i. record { early = i.early; few = i.few }) h.queries }
few_after m (Drop n) count e h = record { streams = h.streams; queries = told_each dropped n m.queries (λ q i. record { early = i.early; few = i.few }) h.queries }

pub few_closed_stand : FewClosedStand
few_closed_stand = record { start = record { streams = tt; queries = tt }; goes_on = few_after }

-- WHAT A QUERY'S SOURCES HAVE CLOSED
open_few : (ss : List Stream) (n : ℕ) → AllByRecursion HasFewClosed ss → option_map_or (λ s. s.first_open) (slice_get ss n) 0 ≤ instants
open_few [] n h = omega arith
open_few (s ∷ ss) zero h = h.0.few
open_few (s ∷ ss) (suc n) h = open_few ss n h.1

least_below : (x : ℕ) (xs : List ℕ) → fold min x xs ≤ x
least_below x [] = omega arith
least_below x (y ∷ xs) = let l : fold min (min x y) xs ≤ min x y = least_below (min x y) xs in omega (arith, l)

greatest_below : (most x : ℕ) (xs : List ℕ) → x ≤ most → AllByRecursion (λ y. y ≤ most) xs → fold max x xs ≤ most
greatest_below most x [] h g = h
greatest_below most x (y ∷ xs) h g = greatest_below most (max x y) xs (omega (arith, h, g.0)) g.1

opens_few : (ss : List Stream) (ps : List Place) → AllByRecursion HasFewClosed ss → AllByRecursion (λ y. y ≤ instants) (opens ss ps)
opens_few ss [] h = tt
opens_few ss (p ∷ ps) h = (open_few ss p.stream h, opens_few ss ps h)

pub first_few : (ss : List Stream) (ps : List Place) → AllByRecursion HasFewClosed ss → first_for ss ps ≤ instants
first_few ss [] h = omega arith
first_few ss (p ∷ ps) h = greatest_below instants (option_map_or (λ s. s.first_open) (slice_get ss p.stream) 0) (opens ss ps) (open_few ss p.stream h) (opens_few ss ps h)

pub until_few : (ss : List Stream) (ps : List Place) → AllByRecursion HasFewClosed ss → until_for ss ps ≤ instants
until_few ss [] h = omega arith
until_few ss (p ∷ ps) h =
    let first : ℕ = option_map_or (λ s. s.first_open) (slice_get ss p.stream) 0 in
    let l : fold min first (opens ss ps) ≤ first = least_below first (opens ss ps) in
    omega (arith, l, open_few ss p.stream h)

-- The machine at worked examples.
use Rattle.std.proofs.Common.{arith}
use Rattle.std.specs.Prelude.{◌≡◌, ℕ, false, true, [], ◌∷◌, Option, Some, None, Ok}
use Rattle.std.specs.Prelude.{Err, ℤ, pos, negsuc, refl}
use Rattle.cql_reader.specs.Lexis as words
use Rattle.values.specs.declared.reach.Reach.TheVariants.{Last}
use Rattle.values.specs.Window.{Instants}
use Rattle.values.specs.Condition.{SourceColumn}
use Rattle.values.specs.Relation.{Listed}
use Rattle.values.specs.Answers.{Resolved, Istream}
use Rattle.reference.specs.declared.fault.Fault.TheVariants.{UnknownStream, UnknownQuery, BadWidth}
use Rattle.reference.specs.declared.fault.Fault.TheVariants.{ValueRange, Late, Backward, Leap}
use Rattle.reference.specs.declared.fault.Fault.TheVariants.{StreamFull, BadLimit}
use Rattle.plan.specs.Build.{plan_of}
use Rattle.plan.specs.Chart.{measures_of}
use Rattle.reference.specs.Machine.{Machine, Place, Stream, Registered}
use Rattle.reference.specs.Commands.{Declare, Append, Heartbeat, Take, Drop, first_fault, after}
use Rattle.reference.specs.Commands.{is_crowded, took}
use Rattle.reference.specs.Replies.{Number, Done, Rows}
use Rattle.reference.specs.Steps.{AreNext, IsStep}
use Rattle.reference.specs.Status.{QueryStatus, status_of}
use Rattle.reference.specs.World.{World, begins_at, drain_step, drop_step, peek_at, take_step}

-- a value, and the column a of the source S
abbrev num : ℕ → Option ℤ
num n = Some (pos n)

abbrev a : SourceColumn
a = record { source = 0; column = 0 }

-- a stream S(a) with all open
abbrev fresh : Stream
fresh = record {
  name = 83 ∷ [];
  columns = (97 ∷ []) ∷ [];
  elements = [];
  arrivals = 0;
  first_open = 0;
}

abbrev told : Machine
told = record { streams = fresh ∷ []; queries = [] }

-- a heartbeat closes at most 65,536 instants
widest_leap : first_fault told (Heartbeat 0 (pos 65535)) ≡ None
widest_leap = refl

leap_of_one_more : first_fault told (Heartbeat 0 (pos 65536)) ≡ Some Leap
leap_of_one_more = refl

heartbeat_below : first_fault (after told (Heartbeat 0 (pos 3)) 0) (Heartbeat 0 (pos 3))
    ≡ Some Backward
heartbeat_below = refl

heartbeat_of_none : first_fault told (Heartbeat 1 (pos 0)) ≡ Some UnknownStream
heartbeat_of_none = refl

-- a row at a closed instant comes late
late_row : first_fault (after told (Heartbeat 0 (pos 3)) 0)
    (Append 0 ((pos 3, num 1 ∷ []) ∷ [])) ≡ Some Late
late_row = refl

row_in_time : first_fault (after told (Heartbeat 0 (pos 3)) 0)
    (Append 0 ((pos 4, num 1 ∷ []) ∷ [])) ≡ None
row_in_time = refl

-- the width is tested before the values, and all rows' widths before all rows' values
wide_row_first : first_fault told (Append 0 ((pos 0, num 1099511627776 ∷ []) ∷ (pos 0, []) ∷ []))
    ≡ Some BadWidth
wide_row_first = refl

value_before_instant : first_fault told
    (Append 0 ((pos 1099511627777, num 1099511627776 ∷ []) ∷ [])) ≡ Some ValueRange
value_before_instant = refl

-- what Select Istream(*) From S [Now] means
abbrev lists_a : Resolved
lists_a = record {
  windows = Instants (Last 0) ∷ [];
  condition = None;
  shape = Listed (a ∷ []);
  is_distinct = false;
  operator = Istream;
}

-- THE ROW LIMIT, of a query of four sources, three of
-- them of this stream, one registered before a row came
abbrev place : ℕ → Place
place n = record { stream = 0; arrivals = n }

abbrev four : Registered
four = record {
  name = 113 ∷ [];
  meaning = lists_a;
  nodes = [];
  measures = [];
  places = place 1 ∷ place 1 ∷ place 0 ∷ record { stream = 1; arrivals = 0 } ∷ [];
  first =
      0;
  start = 0;
  earlier = [];
  taken = 0;
  ever_taken = 0;
  is_dropped = false;
}

as_many_as_count : is_crowded 0 32768 four ≡ false
as_many_as_count = refl

one_row_more : is_crowded 0 32769 four ≡ true
one_row_more = refl

of_another_stream : is_crowded 2 32769 four ≡ false
of_another_stream = refl

of_a_dropped_query : is_crowded 0 32769 (record four { is_dropped = true }) ≡ false
of_a_dropped_query = refl

of_three_sources : is_crowded 0 1048577
    (record four { places = place 1 ∷ place 1 ∷ place 1 ∷ [] }) ≡ false
of_three_sources = refl

one_row_more_of_three : is_crowded 0 1048578
    (record four { places = place 2 ∷ place 2 ∷ place 1 ∷ [] }) ≡ true
one_row_more_of_three = refl

of_two_sources : is_crowded 0 1048578 (record four { places = place 1 ∷ place 0 ∷ [] }) ≡ false
of_two_sources = refl

-- it is the last test of an append, and one of no rows is accepted at the limit
abbrev full : Machine
full = record { streams = record fresh { arrivals = 32768 } ∷ []; queries = four ∷ [] }

full_stream : first_fault full (Append 0 ((pos 3, num 1 ∷ []) ∷ [])) ≡ Some StreamFull
full_stream = refl

full_stream_of_late_rows : first_fault (after full (Heartbeat 0 (pos 3)) 0)
    (Append 0 ((pos 3, num 1 ∷ []) ∷ [])) ≡ Some Late
full_stream_of_late_rows = refl

no_rows : first_fault full (Append 0 []) ≡ None
no_rows = refl

after_the_drop : first_fault (after full (Drop 0) 0) (Append 0 ((pos 3, num 1 ∷ []) ∷ [])) ≡ None
after_the_drop = refl

-- a query on S
abbrev query : Registered
query = record {
  name = 113 ∷ [];
  meaning = lists_a;
  nodes = plan_of (1 ∷ []) lists_a;
  measures = measures_of (plan_of (1 ∷ []) lists_a) None;
  places =
      record { stream = 0; arrivals = 0 } ∷ [];
  first = 0;
  start = 0;
  earlier = [];
  taken = 0;
  ever_taken = 0;
  is_dropped = false;
}

abbrev asked : World
asked = record {
  machine = record { streams = fresh ∷ []; queries = query ∷ [] };
  waiting = [] ∷ [];
  upto = 0 ∷ [];
}

limit_of_none : first_fault asked.machine (Take 0 (pos 0)) ≡ Some BadLimit
limit_of_none = refl

no_query : first_fault asked.machine (Take 1 (pos 0)) ≡ Some UnknownQuery
no_query = refl

dropped_query : first_fault (after asked.machine (Drop 0) 0) (Take 0 (pos 1)) ≡ Some UnknownQuery
dropped_query = refl

-- rows of instants 3, 1 and 3 come, all up to 3 is closed, and a drain makes the answers wait
abbrev came : Machine
came = after (after asked.machine
    (Append 0 ((pos 3, num 7 ∷ []) ∷ (pos 1, num 5 ∷ []) ∷ (pos 3, num 6 ∷ []) ∷ [])) 0)
    (Heartbeat 0 (pos 3)) 0

abbrev waits : World
waits = record {
  machine = came;
  waiting = ((1, num 5 ∷ []) ∷ (3, num 6 ∷ []) ∷ (3, num 7 ∷ []) ∷ []) ∷ [];
  upto = 4 ∷ [];
}

drained : drain_step (record { machine = came; waiting = [] ∷ []; upto = 0 ∷ [] }) 1
    ≡ (Ok tt, waits)
unfolding drain_step
drained = refl

-- takes of at most 2 hand out 2 answers, then the last, then none
first_take : (take_step waits 0 (pos 2)).0 ≡ Ok ((pos 1, num 5 ∷ []) ∷ (pos 3, num 6 ∷ []) ∷ [])
unfolding take_step
first_take = refl

second_take : (take_step (take_step waits 0 (pos 2)).1 0 (pos 2)).0 ≡ Ok ((pos 3, num 7 ∷ []) ∷ [])
unfolding take_step
second_take = refl

third_take : (take_step (take_step (take_step waits 0 (pos 2)).1 0 (pos 2)).1 0 (pos 2)).0 ≡ Ok []
unfolding take_step
third_take = refl

-- what was taken does not wait again
drained_again : drain_step (take_step waits 0 (pos 2)).1 1 ≡ (Ok tt, (take_step waits 0 (pos 2)).1)
unfolding drain_step take_step
drained_again = refl

-- a peek shows the same each time, and is refused as a take is
first_peek : peek_at waits 0 (pos 2) ≡ Ok ((pos 1, num 5 ∷ []) ∷ (pos 3, num 6 ∷ []) ∷ [])
unfolding take_step peek_at
first_peek = refl

peek_after_the_take : peek_at (take_step waits 0 (pos 2)).1 0 (pos 2)
    ≡ Ok ((pos 3, num 7 ∷ []) ∷ [])
unfolding take_step peek_at
peek_after_the_take = refl

peek_of_none : peek_at waits 1 (pos 2) ≡ Err UnknownQuery
unfolding take_step peek_at
peek_of_none = refl

-- HOW FAR ALL IS: three answers wait, and all of them up to the instant 3
abbrev as_shown : ℕ → ℕ → QueryStatus
as_shown taken waiting = record {
  name = 113 ∷ [];
  base = negsuc 0;
  taken = taken;
  waiting = waiting;
  upto = pos 3;
  is_broken = false;
}

status_drained : status_of waits ≡ record {
  queries = as_shown 0 3 ∷ [];
  streams = record {
    name = 83 ∷ [];
    columns = (97 ∷ []) ∷ [];
    closed = pos 3;
    rows = 3;
  } ∷ [];
}
unfolding status_of
status_drained = refl

status_after_a_take : (status_of (take_step waits 0 (pos 2)).1).queries ≡ as_shown 2 1 ∷ []
unfolding take_step status_of
status_after_a_take = refl

status_after_the_drop : (status_of (drop_step waits 0).1).queries ≡ []
unfolding drop_step status_of
status_after_the_drop = refl

-- closed, but not yet drained
status_undrained : (status_of (record { machine = came; waiting = [] ∷ []; upto = 0 ∷ [] })).queries
    ≡ record (as_shown 0 0) { upto = negsuc 0 } ∷ []
unfolding status_of
status_undrained = refl

-- a query that is registered after an instant was closed lacks none up to that
begins_late : begins_at (after told (Heartbeat 0 (pos 3)) 0)
    (Ok (record { streams = 0 ∷ []; meaning = lists_a; nodes = []; measures = [] })) ≡ 4
begins_late = refl

-- the count of all that was ever taken stays at its greatest
most_are_counted : (took 5 (record query { ever_taken = 18446744073709551611 })).ever_taken
    ≡ 18446744073709551615
most_are_counted = refl

-- STEPS OF THE MACHINE
declaration : IsStep told (Declare (84 ∷ []) ((98 ∷ []) ∷ []) (pos 5)) (Number 1)
    (after told (Declare (84 ∷ []) ((98 ∷ []) ∷ []) (pos 5)) 0)
unfolding words.is_name words.all_word words.kind_in words.reserved words.same_letters
    words.same_bytes
declaration = record { accepted = refl; gives = refl; after = refl }

rows_come : IsStep told (Append 0 ((pos 3, num 7 ∷ []) ∷ [])) Done
    (after told (Append 0 ((pos 3, num 7 ∷ []) ∷ [])) 0)
rows_come = record { accepted = refl; gives = tt; after = refl }

heartbeat_closes : IsStep told (Heartbeat 0 (pos 3)) Done
    (record { streams = record fresh { first_open = 4 } ∷ []; queries = [] })
heartbeat_closes = record { accepted = refl; gives = tt; after = refl }

-- a take of at most 2 may hand out the next 2, or fewer of them
two_are_next : AreNext came 0 (pos 2) ((pos 1, num 5 ∷ []) ∷ (pos 3, num 6 ∷ []) ∷ [])
two_are_next = record { query = query; registered = refl; few = omega arith; next = refl }

two_are_taken : IsStep came (Take 0 (pos 2)) (Rows ((pos 1, num 5 ∷ []) ∷ (pos 3, num 6 ∷ []) ∷ []))
    (record came { queries = record query { taken = 2; ever_taken = 2 } ∷ [] })
two_are_taken = record { accepted = refl; gives = two_are_next; after = refl }

one_is_next : AreNext came 0 (pos 2) ((pos 1, num 5 ∷ []) ∷ [])
one_is_next = record { query = query; registered = refl; few = omega arith; next = refl }

one_is_taken : IsStep came (Take 0 (pos 2)) (Rows ((pos 1, num 5 ∷ []) ∷ []))
    (record came { queries = record query { taken = 1; ever_taken = 1 } ∷ [] })
one_is_taken = record { accepted = refl; gives = one_is_next; after = refl }

-- What a call does to the streams of a machine, whatever
-- queries the machine has, or by their row limit alone.
use Rattle.std.specs.Prelude.{◌≡◌, ℕ, ℤ, ◌+◌, ◌≤◌, ◌++◌, Bool, nat_lt, List, [], ◌∷◌, length}
use Rattle.std.specs.Prelude.{Option, Result}
use Rattle.std.specs.List.{list_any}
use Rattle.values.specs.Row.{Row}
use Rattle.reference.specs.Commands.{append_tests, is_crowded}
use Rattle.reference.specs.Machine.{Stream, Registered}
use Rattle.reference.specs.World.{World, Step, Does}
use Rattle.reference.specs.declared.fault.Fault.{Fault}
use Rattle.reference.specs.declared.fault.Fault.TheVariants.{StreamFull}
use Rattle.reference.specs.declared.limits.TheConstants.{MAX_STREAM_ROWS}

-- a machine of these queries and streams, the answers
-- that wait, and up to where the queries are complete
abbrev pub beside : List Registered → List (List (ℕ × Row)) → List ℕ → List Stream → World
beside queries waiting upto streams = record {
  machine = record { streams = streams; queries = queries };
  waiting = waiting;
  upto = upto;
}

-- THE ROW LIMIT of the machine's queries: to the stream of a number so many rows may come
-- in all; more than these, and no more than any stream may have, crowd one of the queries
pub record IsLimit (n most : ℕ) (queries : List Registered) : Type 0 where
  pub crowds : (arrivals : ℕ) → arrivals ≤ MAX_STREAM_ROWS
      → list_any (is_crowded n arrivals) queries ≡ nat_lt most arrivals

-- the tests of rows for the stream, with its row limit
abbrev pub limited_tests : ℕ → List (ℤ × List (Option ℤ)) → Stream → List (Bool × Fault)
limited_tests most rows s = append_tests s rows
    ++ (nat_lt most (s.arrivals + length rows), StreamFull) ∷ []

-- The call did to the streams what the step does to each machine that has them.
pub record DoesBeside {A B : Type 0} (view : A → B) (step : World → Step B) (old : List Stream)
    (result : Result A Fault) (new : List Stream) : Type 0 where
  pub does : (queries : List Registered) (waiting : List (List (ℕ × Row))) (upto : List ℕ)
      → Does view (beside queries waiting upto old) (step (beside queries waiting upto old)) result
      (beside queries waiting upto new)

-- The same of each machine that has them beside such queries.
pub record DoesBesideSuch {A B : Type 0} (Such : List Registered → Type 0) (view : A → B)
    (step : World → Step B) (old : List Stream) (result : Result A Fault)
    (new : List Stream) : Type 0 where
  pub does : (queries : List Registered) (waiting : List (List (ℕ × Row))) (upto : List ℕ)
      → Such queries
      → Does view (beside queries waiting upto old) (step (beside queries waiting upto old)) result
      (beside queries waiting upto new)

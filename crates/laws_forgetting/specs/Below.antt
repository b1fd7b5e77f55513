-- TO BELIEVE: the theorem rests on these definitions, and no proof can check them.
-- A query's answers below an instant.
use Rattle.std.specs.Prelude.{ℕ, ◌+◌, List, ◌++◌, map}
use Rattle.values.specs.Row.{Row}
use Rattle.reference.specs.Machine.{Machine, Registered, answers_from, input_at}

-- the query's answers below the instant after a mark
abbrev pub answers_below : Machine → Registered → ℕ → List (ℕ × Row)
answers_below m q next = q.earlier
    ++ answers_from q.meaning q.first q.start next (map (input_at m.streams q.first) q.places)

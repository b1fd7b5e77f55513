-- What a queue has gained by a turn that was refused.
use Rattle.std.specs.Prelude.{ℕ, Bool, List, map}
use Rattle.values.specs.Row.{Row}
use Rattle.op_queue.specs.Entries.{RowAt}
use Rattle.op_queue.specs.Queues.{HasGained, Waiting}

-- rows of this instant were pushed, of which there may be none
abbrev pub HasGrownAt : ℕ → Waiting → Waiting → Type 0
HasGrownAt t old new = (xs : List (Bool × Row)) × HasGained (map (RowAt t) xs) old new

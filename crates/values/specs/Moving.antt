-- When a window moves, what it shows then, and which instants the code keeps for it.
use Rattle.std.specs.Prelude.{ℕ, ◌-◌, ◌*◌, ◌/◌, ◌==◌, ◌<◌, Bool, true, false, ◌&&◌, ◌||◌, nat_le}
use Rattle.std.specs.Prelude.{nat_lt}
use Rattle.values.specs.declared.reach.Reach.{Reach}
use Rattle.values.specs.declared.reach.Reach.TheVariants.{All, Last, Steps}
use Rattle.values.specs.declared.reach.NeededInstants.{NeededInstants}
use Rattle.values.specs.Reach.{still_reaches}

-- HOW IT MOVES
-- it moves at the tick of the instant t: rows leave, and rows that waited are shown
abbrev pub moves : Reach → ℕ → Bool
moves All t = false
moves (Last n) t = true
moves (Steps n l) t = t / l * l == t

-- the first instant that it shows once it has moved at the tick of t
abbrev pub oldest : Reach → ℕ → ℕ
oldest All t = 0
oldest (Last n) t = t - n
oldest (Steps n l) t = t - n

-- rows are shown as soon as they come, and do not wait until it moves
abbrev pub at_once : Reach → Bool
at_once All = true
at_once (Last n) = true
at_once (Steps n l) = false

-- its step is one instant or more, as each step of the code is
abbrev pub HasStep : Reach → Type 0
HasStep All = Unit {0}
HasStep (Last n) = Unit {0}
HasStep (Steps n l) = 0 < l

-- `next` is the instant after the mark: what is above the mark, and what it still shows
abbrev pub needs : ℕ → Reach → ℕ → ℕ → Bool
needs start r next i = nat_le next i || still_reaches start r (next - 1) i

-- the instants that the code holds have i
abbrev pub has : NeededInstants → ℕ → Bool
has n i = nat_le n.since i || (nat_le n.low i && nat_lt i n.high)

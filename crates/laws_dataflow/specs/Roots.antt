-- TO BELIEVE: the theorem rests on these definitions, and no proof can check them.
-- The operator below a plan's root, and the instant after its last tick.
use Rattle.std.specs.Prelude.{ℕ, ◌-◌, List, length, ◌+◌, Option, Some, None}
use Rattle.plan.specs.Nodes as plan

-- how many operators stand below the root
abbrev pub below_root : List plan.Node → ℕ
below_root ns = length ns - 1

-- the first instant that is open behind the last tick
abbrev pub behind : ℕ → Option ℕ → ℕ
behind first None = first
behind first (Some t) = t + 1

-- TO BELIEVE: the theorem rests on these definitions, and no proof can check them.
-- Which instants a window shows, and which ones it still needs when nothing more comes.
use Rattle.std.specs.Prelude.{ℕ, ◌+◌, ◌-◌, ◌*◌, ◌/◌, Bool, ◌&&◌, ◌||◌, nat_le}
use Rattle.values.specs.declared.reach.Reach.{Reach}
use Rattle.values.specs.declared.reach.Reach.TheVariants.{All, Last, Steps}

-- WHAT IT SHOWS at the instant t: whether what came at the instant i;
-- `start` is the first instant above the query's base
abbrev pub reaches : ℕ → Reach → ℕ → ℕ → Bool
-- all so far
reaches start All t i = nat_le i t
-- the last n instants and this one
reaches start (Last n) t i = nat_le (t - n) i && nat_le i t
-- the same at the greatest multiple of l that is not above t, if that is above the base
reaches start (Steps n l) t i =
    nat_le start (t / l * l) && nat_le (t / l * l - n) i && nat_le i (t / l * l)

-- WHAT IT STILL NEEDS
-- at the instant t or later it shows what came at i, which is not above t, when nothing more comes
abbrev pub still_reaches : ℕ → Reach → ℕ → ℕ → Bool
still_reaches start All t i = reaches start All t i
still_reaches start (Last n) t i = reaches start (Last n) t i
-- the next multiple shows what the later ones show
still_reaches start (Steps n l) t i =
    reaches start (Steps n l) t i || nat_le ((t / l + 1) * l - n) i

-- TO BELIEVE: the theorem rests on these definitions, and no proof can check them.
-- The openings that accepted commands lead to, from nothing.
use Rattle.std.specs.Prelude.{◌≡◌, ℕ, ◌+◌, List, [], ◌∷◌, length}
use Rattle.reference.specs.Machine.{Machine, empty}
use Rattle.laws_engine.specs.Engines.{PlainEngine}
use Rattle.laws_engine.specs.Openings.{forgotten}
use Rattle.laws_engine.specs.Promises.{KeepsItsPromises}
use Rattle.histories.specs.Histories.{Entry, Replays}

-- THE STRETCHES LEAD TO A MACHINE: one list of entries for each forget, the latest first. Each
-- replays from where the one before it led. The engine then kept its promises (what its queries
-- had answered were answers of CQL), and it forgets; the first of all starts from the machine that
-- received nothing
abbrev pub Lead : List (List Entry) → Machine → Type 0
Lead [] m = m ≡ empty
Lead (es ∷ earlier) m = (start : Machine) × (e : PlainEngine) × Lead earlier start
    × Replays start es e.machine × KeepsItsPromises e × (m ≡ (forgotten e).machine)

-- how many entries they have
abbrev pub entries_in : List (List Entry) → ℕ
entries_in [] = 0
entries_in (es ∷ earlier) = entries_in earlier + length es

-- SO MANY ACCEPTED COMMANDS LED TO THIS MACHINE, from nothing, with forgets between them
pub record IsReachedBy (many : ℕ) (m : Machine) : Type 0 where
  pub stretches : List (List Entry)
  pub lead : Lead stretches m
  pub count : entries_in stretches ≡ many

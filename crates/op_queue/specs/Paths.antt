-- What a queue means to its two ends: a path from the bag that its
-- consumer has taken to the bag that its producer has put out.
use Rattle.std.specs.Prelude.{ℕ, ◌+◌, ◌≡◌, Bool, List, [], ◌∷◌, ◌++◌}
use Rattle.op_queue.specs.Entries.{Entry, RowAt, TickAt}
use Rattle.op_queue.specs.Signed.{Adds, Turns}

-- the signed rows of a queue, in order
unfoldable pub rows_in : {X : Type 0} → List (Entry X) → List (Bool × X)
rows_in [] = []
rows_in (RowAt t s ∷ q) = s ∷ rows_in q
rows_in (TickAt t ∷ q) = rows_in q

-- how many ticks it has
unfoldable pub ticks_in : {X : Type 0} → List (Entry X) → ℕ
ticks_in [] = 0
ticks_in (RowAt t s ∷ q) = ticks_in q
ticks_in (TickAt t ∷ q) = 1 + ticks_in q

-- from the instant n on each instant has its rows and then its tick, and at
-- each tick b with all rows so far, those of acc first, is the value there
abbrev pub Synced : {X : Type 0} → (ℕ → List X) → List X → List (Bool × X) → ℕ
    → List (Entry X) → Type 0
Synced v b acc n [] = Unit {0}
Synced v b acc n (RowAt t s ∷ q) = (t ≡ n) × Synced v b (acc ++ s ∷ []) n q
Synced v b acc n (TickAt t ∷ q) = (t ≡ n) × Adds b acc (v n) × Synced v b acc (n + 1) q

-- the queue leads from the bag b at the open instant n to the
-- bag c at the open instant m, by the values v at the ticks
pub record Leads {X : Type 0} (v : ℕ → List X) (b : List X) (n : ℕ) (q : List (Entry X))
    (c : List X) (m : ℕ) : Type 0 where
  pub turns : Turns b (rows_in q) c
  pub synced : Synced v b [] n q
  pub reached : n + ticks_in q ≡ m

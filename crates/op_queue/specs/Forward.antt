-- Entries whose instants never go back.
use Rattle.std.specs.Prelude.{ℕ, ◌≤◌, List, All}
use Rattle.std.specs.List.Sorted.{IsNonDecreasingBy}
use Rattle.op_queue.specs.Entries.{Entry, RowAt, TickAt}

abbrev pub instant_of : {X : Type 0} → Entry X → ℕ
instant_of (RowAt t s) = t
instant_of (TickAt t) = t

-- instants never go back
abbrev pub IsForward : {X : Type 0} → List (Entry X) → Type 0
IsForward es = IsNonDecreasingBy instant_of es

-- instants never go back, and never lie above t: what one push after another keeps
pub record IsUpTo {X : Type 0} (t : ℕ) (es : List (Entry X)) : Type 0 where
  pub forward : IsForward es
  pub below : All (λ e. instant_of e ≤ t) es

-- That a receipt is of its entry.
use Rattle.std.specs.Prelude.{◌≡◌, ℕ, ◌+◌, List, Some, slice_get}
use Rattle.histories.specs.Histories.{Entry, Told}

-- A RECEIPT IS OF ITS ENTRY, where the first entry of the list has the number `first`: the entry
-- of its number is there, and is the one that it tells. Of a lower number nothing is said
pub record IsOf (first : ℕ) (es : List Entry) (r : Told) : Type 0 where
  pub entry : (k : ℕ) → r.number ≡ first + k → slice_get es k ≡ Some r.entry

-- Receipts whose numbers rise.
use Rattle.std.specs.Prelude.{ℕ, ◌+◌, ◌≤◌, List, [], ◌∷◌, ⊤}
use Rattle.histories.specs.Histories.{Told}

-- THE RECEIPTS RISE: the number of each is above those of all before it, and at or above n
abbrev pub IsRisingFrom : ℕ → List Told → Type 0
IsRisingFrom n [] = ⊤
IsRisingFrom n (r ∷ rs) = (n ≤ r.number) × IsRisingFrom (r.number + 1) rs

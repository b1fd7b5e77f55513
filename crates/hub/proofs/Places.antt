-- Where the receipts of numbers from some number on begin, at each seat.
use Rattle.std.specs.Prelude.{ℕ, suc, nat_lt, List, [], ◌∷◌, map, if◌then◌else◌}
use Rattle.histories.specs.Histories.{Told}
use Rattle.hub.specs.Seats.{PlainSeat}

-- how many of the receipts have numbers below n
abbrev pub told_below : ℕ → List Told → ℕ
told_below n [] = 0
told_below n (r ∷ rs) = if nat_lt r.number n then suc (told_below n rs) else told_below n rs

-- the same of each seat
abbrev pub places_at : ℕ → List PlainSeat → List ℕ
places_at n seats = map (λ (s : PlainSeat). told_below n s.receipts) seats

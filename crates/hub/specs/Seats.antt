-- TO BELIEVE: the theorem rests on these definitions, and no proof can check them.
-- Seats and their receipts.
use Rattle.std.specs.Prelude.{◌≡◌, ℕ, ◌+◌, ◌≤◌, ◌<◌, nat_le, nat_lt, List, [], ◌∷◌, length, All}
use Rattle.std.specs.Prelude.{count_by, ◌==◌, if◌then◌else◌, max}
use Rattle.histories.specs.Histories.{Entry, Told, own}
use Rattle.hub.specs.declared.settled.Settled.{Settled}

-- NO CALL IS SETTLED
abbrev pub unsettled : Settled
unsettled = record { count = 0; until = 0; by_number = 0 }

-- a seat: its number, the receipts of its own calls that are not settled, which of its
-- calls are settled, and one more than the greatest number that it learnt of other
-- seats' receipts, 0 if it learnt of none
pub record PlainSeat : Type 0 where
  pub number : ℕ
  pub receipts : List Told
  pub settled : Settled
  pub learnt : ℕ

abbrev pub opened : ℕ → PlainSeat
opened n = record { number = n; receipts = []; settled = unsettled; learnt = 0 }

-- one more than the greatest number among the receipts
abbrev pub held : List Told → ℕ
held [] = 0
held (r ∷ rs) = max (r.number + 1) (held rs)

-- one more than the greatest number of the seat's own calls, settled or held
abbrev pub own_reach : PlainSeat → ℕ
own_reach s = max s.settled.until (held s.receipts)

-- one more than the greatest number that the seat settled, holds or has learnt
abbrev pub reach : PlainSeat → ℕ
reach s = max (own_reach s) s.learnt

-- the receipts of numbers from the n-th on
abbrev pub receipts_from : ℕ → List Told → List Told
receipts_from n [] = []
receipts_from n (r ∷ rs) = if nat_le n r.number then r ∷ receipts_from n rs else receipts_from n rs

-- how many of the receipts have numbers below n
abbrev pub count_below : ℕ → List Told → ℕ
count_below n rs = count_by (λ (r : Told). nat_lt r.number n) rs

-- HOW MANY of a seat's calls are compared only by their numbers, where the history
-- begins with the entry of the number `first`: before, and now
abbrev pub by_number : ℕ → PlainSeat → ℕ
by_number first s = s.settled.by_number + count_below first s.receipts

-- how many of the receipts have the number n
abbrev pub told_at : ℕ → List Told → ℕ
told_at n [] = 0
told_at n (r ∷ rs) = (if r.number == n then 1 else 0) + told_at n rs

-- how many receipts of all the seats have it
abbrev pub times_told : ℕ → List PlainSeat → ℕ
times_told n [] = 0
times_told n (s ∷ ss) = told_at n s.receipts + times_told n ss

-- WHAT A HISTORY AND THE SEATS TELL ALIKE, where the history begins with the entry of the number
-- `first`. Each number of a seat is there once, and every entry is of one of them. From the first
-- entry on the receipts of each are just those of its entries. The numbers of all receipts together
-- are those of all entries, also of those before the first, each once
pub record IsAudited (seats : List PlainSeat) (count first : ℕ)
    (entries : List Entry) : Type 0 where
  pub many : length seats ≡ count
  pub each : (k : ℕ) → k < count → count_by (λ (s : PlainSeat). s.number == k) seats ≡ 1
  pub known : All (λ (e : Entry). e.seat < count) entries
  pub told : All (λ (s : PlainSeat). own s.number first entries
      ≡ receipts_from first s.receipts) seats
  pub once : (n : ℕ) → n < first + length entries → times_told n seats ≡ 1
  pub others : (n : ℕ) → first + length entries ≤ n → times_told n seats ≡ 0

-- TO BELIEVE: the theorem rests on these definitions, and no proof can check them.
-- What the history and the seats of a hub tell alike at its end.
use Rattle.std.specs.Prelude.{◌≡◌, ◌==◌, ℕ, ◌+◌, ◌≤◌, ◌<◌, List, length, All, count_by}
use Rattle.std.specs.List.{sum_by}
use Rattle.histories.specs.Histories.{Entry}
use Rattle.hub.specs.Ledgers.{Agrees, PlainLedger}
use Rattle.hub.specs.Seats.{PlainSeat, by_number, times_told}

-- EVERY ACCEPTED CALL IS ACCOUNTED FOR, where the history begins with the entry of the number
-- `first`. Each number of a seat is there once, and every entry is of one of them. Each seat agrees
-- with the hub. A number is on one receipt at most, of all seats, and none that was not given. What
-- the seats settled and what they hold are together as many calls as were ever accepted
pub record IsAccounted (l : PlainLedger) (seats : List PlainSeat) (count first : ℕ)
    (entries : List Entry) : Type 0 where
  pub many : length seats ≡ count
  pub each : (k : ℕ) → k < count → count_by (λ (s : PlainSeat). s.number == k) seats ≡ 1
  pub known : All (λ (e : Entry). e.seat < count) entries
  pub agree : All (Agrees l first entries) seats
  pub once : (n : ℕ) → times_told n seats ≤ 1
  pub others : (n : ℕ) → first + length entries ≤ n → times_told n seats ≡ 0
  pub total : sum_by (λ (s : PlainSeat). s.settled.count + length s.receipts) seats
      ≡ first + length entries

-- HOW MANY of all seats' calls are compared only by their numbers
abbrev pub alone : ℕ → List PlainSeat → ℕ
alone first seats = sum_by (by_number first) seats

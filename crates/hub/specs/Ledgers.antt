-- TO BELIEVE: the theorem rests on these definitions, and no proof can check them.
-- What a hub keeps of each seat's calls: which are settled, and the numbers of the others.
use Rattle.std.specs.Prelude.{◌≡◌, ◌==◌, ℕ, ◌+◌, ◌≤◌, nat_le, List, [], ◌∷◌, ◌++◌, length, map}
use Rattle.std.specs.Prelude.{Option, None, Some, set, slice_get, if◌then◌else◌}
use Rattle.std.specs.List.{sum_by}
use Rattle.histories.specs.Histories.{Entry, Told, own}
use Rattle.hub.specs.Seats.{PlainSeat, by_number, own_reach, receipts_from}
use Rattle.hub.specs.declared.settled.Settled.{Settled}

-- of one seat: which of its calls are settled, and the numbers of those that are due, in order
pub record PlainAccount : Type 0 where
  pub settled : Settled
  pub due : List ℕ

-- of all seats, by their numbers; how many calls of other hubs' seats were accepted;
-- how many calls are settled
pub record PlainLedger : Type 0 where
  pub accounts : List PlainAccount
  pub strangers : ℕ
  pub settled : ℕ

-- A CALL OF THIS NUMBER IS ACCEPTED of a seat: it is due, or the seat is of another hub
abbrev pub noted_at : PlainLedger → ℕ → ℕ → Option PlainAccount → PlainLedger
noted_at l seat n None = record l { strangers = l.strangers + 1 }
noted_at l seat n (Some a) =
    record l { accounts = set l.accounts seat (record a { due = a.due ++ n ∷ [] }) }

abbrev pub noted : PlainLedger → ℕ → ℕ → PlainLedger
noted l seat n = noted_at l seat n (slice_get l.accounts seat)

-- WHAT IS SETTLED of a seat that settles: all that was, and what it holds.
-- The entries of numbers below `first` are gone
abbrev pub settled_of : ℕ → PlainSeat → Settled
settled_of first s = record {
  count = s.settled.count + length s.receipts;
  until = own_reach s;
  by_number = by_number first s;
}

-- so much more is settled of a seat, and nothing is due
abbrev pub cleared : PlainLedger → ℕ → Settled → ℕ → PlainLedger
cleared l seat s count = record {
  accounts = set l.accounts seat (record { settled = s; due = [] });
  strangers = l.strangers;
  settled = l.settled + count;
}

-- A SEAT SETTLES what it holds: the entries of numbers below `first` are gone
abbrev pub cleared_of : PlainLedger → ℕ → PlainSeat → PlainLedger
cleared_of l first s = cleared l s.number (settled_of first s) (length s.receipts)

-- the numbers from the n-th on
abbrev pub numbers_from : ℕ → List ℕ → List ℕ
numbers_from n [] = []
numbers_from n (k ∷ ks) = if nat_le n k then k ∷ numbers_from n ks else numbers_from n ks

-- the numbers of receipts
abbrev pub numbers_of : List Told → List ℕ
numbers_of rs = map (λ (r : Told). r.number) rs

-- how often the number n is among these
abbrev pub due_at : ℕ → List ℕ → ℕ
due_at n [] = 0
due_at n (k ∷ ks) = (if k == n then 1 else 0) + due_at n ks

-- how often it is due, of all seats
abbrev pub times_due : ℕ → List PlainAccount → ℕ
times_due n accounts = sum_by (λ (a : PlainAccount). due_at n a.due) accounts

-- THE ACCOUNT OF A SEAT, where the history begins with the entry of the number `first`. From there
-- on what is due are the seat's own entries that are not settled
pub record IsAccount (seat first : ℕ) (entries : List Entry) (a : PlainAccount) : Type 0 where
  pub due : numbers_from first a.due
      ≡ numbers_of (receipts_from a.settled.until (own seat first entries))
  pub until : a.settled.until ≤ first + length entries
  pub none : a.settled.count ≡ 0 → a.settled.until ≡ 0
  pub by_number : a.settled.by_number ≤ a.settled.count

-- THE LEDGER OF A HUB. Each number is due once at most, and none that was not given; all that
-- were ever accepted are settled, due or of strangers
pub record IsLedger (l : PlainLedger) (first : ℕ) (entries : List Entry) : Type 0 where
  pub each : (i : ℕ) (a : PlainAccount) → slice_get l.accounts i ≡ Some a
      → IsAccount i first entries a
  pub once : (n : ℕ) → times_due n l.accounts ≤ 1
  pub others : (n : ℕ) → first + length entries ≤ n → times_due n l.accounts ≡ 0
  pub settled : sum_by (λ (a : PlainAccount). a.settled.count) l.accounts ≡ l.settled
  pub total : l.settled + sum_by (λ (a : PlainAccount). length a.due) l.accounts + l.strangers
      ≡ first + length entries

-- A SEAT AND THE HUB TELL ALIKE. Both have the same settled calls, and what is due are the numbers
-- of the seat's receipts. From the first entry on these are just those of its entries that are not
-- settled
pub record Agrees (l : PlainLedger) (first : ℕ) (entries : List Entry)
    (s : PlainSeat) : Type 0 where
  pub account : slice_get l.accounts s.number
      ≡ Some (record { settled = s.settled; due = numbers_of s.receipts })
  pub told : receipts_from s.settled.until (own s.number first entries)
      ≡ receipts_from first s.receipts

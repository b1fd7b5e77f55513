-- The ledger of the code, a new one, and the room that it has.
use Rattle.std.specs.Prelude.{◌≡◌, ℕ, ◌<◌, [], map, Some, replicate, slice_get}
use Rattle.std.specs.Vec.{vec_capacity, vec_len}
use Rattle.hub.specs.Seats.{unsettled}
use Rattle.hub.specs.declared.ledger.Account.{Account}
use Rattle.hub.specs.declared.ledger.Ledger.{Ledger}
use Rattle.hub.specs.Ledgers.{PlainAccount, PlainLedger}

abbrev pub account_in : Account → PlainAccount
account_in a = record { settled = a.settled; due = a.due.items }

-- not unfolded, so that what is said of a ledger stays short
unfoldable pub ledger_in : Ledger → PlainLedger
ledger_in l = record {
  accounts = map account_in l.accounts.items;
  strangers = l.strangers;
  settled = l.settled;
}

-- of a seat that was just opened
abbrev pub fresh : PlainAccount
fresh = record { settled = unsettled; due = [] }

-- and of all seats, by their number
abbrev pub opened_for : ℕ → PlainLedger
opened_for seats = record {
  accounts = replicate seats fresh;
  strangers = 0;
  settled = 0;
}

-- there is room for one number more of a seat
pub record HasPlace (l : Ledger) (seat : ℕ) : Type 0 where
  pub room : (a : Account) → slice_get l.accounts.items seat ≡ Some a
      → vec_len a.due < vec_capacity a.due

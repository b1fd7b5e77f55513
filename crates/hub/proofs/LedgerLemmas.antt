-- What a write into the accounts makes of the ledger.
use Rattle.std.proofs.Common.{◌≡◌, ◌∙◌, ℕ, ◌+◌, ◌≤◌, ◌<◌, List, [], ◌∷◌, ◌++◌, length, map, set, get_or, slice_get, None, Some, refl, sym, ap, subst}
use Rattle.std.proofs.lemmas.List.{map-set, set-get_or, get_or-set_same, length-set}
use Rattle.std.proofs.lemmas.Option.{slice_get_past, slice_get_read, slice_get-map, slice_get-get_or}
use Rattle.std.specs.Option.{option_map}
use Rattle.std.specs.Prelude.{Vec, vec_capacity, vec_len}
use Rattle.std.specs.declared.alloc.Global.{Global}
use Rattle.hub.specs.Ledgers.{PlainAccount, PlainLedger, cleared, noted, noted_at}
use Rattle.hub.specs.LedgerViews.{account_in}
use Rattle.hub.specs.declared.ledger.Account.{Account}
use Rattle.hub.specs.declared.settled.Settled.{Settled}

abbrev pub plain : List PlainAccount → ℕ → ℕ → PlainLedger
plain accounts strangers settled = record { accounts = accounts; strangers = strangers; settled = settled }

-- the account at a place that there is
pub seen_at : (items : List Account) (i : ℕ) (a : Account) → i < length items → a ≡ get_or items i a → slice_get (map account_in items) i ≡ Some (account_in a)
seen_at items i a lt is = slice_get-map account_in items i ∙ ap (option_map account_in) (slice_get_read items (length items) i a refl lt is)

pub none_at : (items : List Account) (i : ℕ) → length items ≤ i → slice_get (map account_in items) i ≡ None
none_at items i le = slice_get-map account_in items i ∙ ap (option_map account_in) (slice_get_past items i le)

module _ (items : List Account) (i : ℕ) (a : Account) (lt : i < length items) (is : a ≡ get_or items i a) (strangers settled : ℕ) where
  -- its list of numbers has more room
  pub roomier : (v : Vec ℕ Global) → v.items ≡ a.due.items → plain (map account_in (set items i (record { settled = a.settled; due = v }))) strangers settled ≡ plain (map account_in items) strangers settled
  roomier v same =
      let view : account_in (record { settled = a.settled; due = v }) ≡ account_in (get_or items i a) = ap (λ ns. record { settled = a.settled; due = ns }) same ∙ ap account_in is in
      let here : map account_in (set items i (record { settled = a.settled; due = v })) ≡ map account_in items =
      map-set account_in items i _ ∙ ap (set (map account_in items) i) view ∙ sym (map-set account_in items i (get_or items i a)) ∙ ap (map account_in) (set-get_or items i a) in
      ap (λ x. plain x strangers settled) here

  -- a number is pushed
  pub pushed : (v : Vec ℕ Global) (n : ℕ) → v.items ≡ a.due.items ++ n ∷ [] → plain (map account_in (set items i (record { settled = a.settled; due = v }))) strangers settled ≡ noted (plain (map account_in items) strangers settled) i n
  pushed v n same =
      let view : account_in (record { settled = a.settled; due = v }) ≡ record { settled = a.settled; due = a.due.items ++ n ∷ [] } = ap (λ ns. record { settled = a.settled; due = ns }) same in
      let here : map account_in (set items i (record { settled = a.settled; due = v })) ≡ set (map account_in items) i (record { settled = a.settled; due = a.due.items ++ n ∷ [] }) = map-set account_in items i _ ∙ ap (set (map account_in items) i) view in
      ap (λ x. plain x strangers settled) here ∙ sym (ap (noted_at (plain (map account_in items) strangers settled) i n) (seen_at items i a lt is))

-- the seat is of another hub
pub estranged : (items : List Account) (i n strangers settled : ℕ) → length items ≤ i → plain (map account_in items) (strangers + 1) settled ≡ noted (plain (map account_in items) strangers settled) i n
estranged items i n strangers settled le = sym (ap (noted_at (plain (map account_in items) strangers settled) i n) (none_at items i le))

-- nothing is due any more
pub emptied : (items : List Account) (i : ℕ) (s : Settled) (v : Vec ℕ Global) (strangers settled count : ℕ) → v.items ≡ []
    → plain (map account_in (set items i (record { settled = s; due = v }))) strangers (settled + count) ≡ cleared (plain (map account_in items) strangers settled) i s count
emptied items i s v strangers settled count none =
    let view : account_in (record { settled = s; due = v }) ≡ record { settled = s; due = [] } = ap (λ ns. record { settled = s; due = ns }) none in
    ap (λ x. plain x strangers (settled + count)) (map-set account_in items i _ ∙ ap (set (map account_in items) i) view)

some_is : (a b : Account) → Some a ≡ Some b → a ≡ b
some_is a b h = cc

-- room at a place
pub room_at : (items : List Account) (i : ℕ) (a b : Account) → i < length items → slice_get (set items i a) i ≡ Some b → vec_len a.due < vec_capacity a.due → vec_len b.due < vec_capacity b.due
room_at items i a b lt is room =
    let there : Some a ≡ Some b = sym (slice_get-get_or (set items i a) i a (subst (λ k. i < k) (sym (length-set items i a)) lt) ∙ ap Some (get_or-set_same items i a a lt)) ∙ is in
    subst (λ (x : Account). vec_len x.due < vec_capacity x.due) (some_is a b there) room

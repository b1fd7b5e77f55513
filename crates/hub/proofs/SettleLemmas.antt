-- A seat that agrees with the hub: its receipts are of their entries, and have the numbers that are due.
use Rattle.std.proofs.Common.{◌≡◌, ◌∙◌, ℕ, ◌+◌, ◌≤◌, Bool, true, false, cond, nat_le, List, [], ◌∷◌, slice_get, Some, All, inl, inr, suc, refl, sym, ap, subst, arith}
use Rattle.std.proofs.lemmas.Bool.{cases_lt, cond-true}
use Rattle.std.proofs.lemmas.Bool.Decides.{nat_tests}
use Rattle.std.proofs.lemmas.List.Elements.{All-cons, All-head, All-nil, All-tail}
use Rattle.histories.specs.Histories.{Entry, Told, own}
use Rattle.histories.specs.Receipts.{IsOf}
use Rattle.hub.specs.Seats.{PlainSeat, receipts_from}
use Rattle.hub.specs.Ledgers.{Agrees, IsLedger, PlainAccount, PlainLedger, numbers_from, numbers_of}
use Rattle.hub.specs.declared.settled.Settled.{Settled}
use Rattle.hub.proofs.PlaceLemmas.{from_passes}

pub some_is : {X : Type 0} (a b : X) → Some a ≡ Some b → a ≡ b
some_is a b h = cc

pub cons_is : {X : Type 0} (a b : X) (xs ys : List X) → a ≡ b → xs ≡ ys → a ∷ xs ≡ b ∷ ys
cons_is a b xs ys h t = rw (h, t) refl

pub heads_are : {X : Type 0} (a b : X) (xs ys : List X) → a ∷ xs ≡ b ∷ ys → (a ≡ b) × (xs ≡ ys)
heads_are a b xs ys h = (cc, cc)

told_is : (n n' : ℕ) (e e' : Entry) → n ≡ n' → e ≡ e' → (let r : Told = record { number = n; entry = e } in r) ≡ record { number = n'; entry = e' }
told_is n n' e e' h t = rw (h, t) refl

-- ---- numbers of receipts from a number on

numbers_if : (b : Bool) (r : Told) (rs : List Told) (ks : List ℕ) → ks ≡ numbers_of rs → cond b (r.number ∷ ks) ks ≡ numbers_of (cond b (r ∷ rs) rs)
numbers_if true r rs ks h = ap (λ t. r.number ∷ t) h
numbers_if false r rs ks h = h

pub numbers_of_from : (n : ℕ) (rs : List Told) → numbers_from n (numbers_of rs) ≡ numbers_of (receipts_from n rs)
numbers_of_from n [] = refl
numbers_of_from n (r ∷ rs) = numbers_if (nat_le n r.number) r (receipts_from n rs) (numbers_from n (numbers_of rs)) (numbers_of_from n rs)

pub from_begins_with : (n : ℕ) (r : Told) (rs : List Told) → n ≤ r.number → receipts_from n (r ∷ rs) ≡ r ∷ receipts_from n rs
from_begins_with n r rs le =
    let is : nat_le n r.number ≡ true = grind (arith, nat_tests) in
    cond-true (nat_le n r.number) (r ∷ receipts_from n rs) (receipts_from n rs) is

all_if : (P : Told → Type 0) (b : Bool) (r : Told) (rs : List Told) → P r → All P rs → All P (cond b (r ∷ rs) rs)
all_if P true r rs h t = All-cons P r rs h t
all_if P false r rs h t = t

pub from_keeps : (P : Told → Type 0) (n : ℕ) (rs : List Told) → All P rs → All P (receipts_from n rs)
from_keeps P n [] h = All-nil P
from_keeps P n (r ∷ rs) h = all_if P (nat_le n r.number) r (receipts_from n rs) (All-head P r rs h) (from_keeps P n rs (All-tail P r rs h))

-- ---- a receipt whose entry is there

pub record IsIn (first : ℕ) (es : List Entry) (r : Told) : Type 0 where
  pub place : ℕ
  pub number : r.number ≡ first + place
  pub entry : slice_get es place ≡ Some r.entry

in_later : (first : ℕ) (e : Entry) (es : List Entry) (rs : List Told) → All (IsIn (first + 1) es) rs → All (IsIn first (e ∷ es)) rs
in_later first e es [] h = All-nil (IsIn first (e ∷ es))
in_later first e es (r ∷ rs) h =
    let here = All-head (IsIn (first + 1) es) r rs h in
    All-cons (IsIn first (e ∷ es)) r rs (record { place = suc here.place; number = omega (arith, here.number); entry = here.entry }) (in_later first e es rs (All-tail (IsIn (first + 1) es) r rs h))

pub own_in : (seat first : ℕ) (es : List Entry) → All (IsIn first es) (own seat first es)
own_in seat first [] = All-nil (IsIn first [])
own_in seat first (e ∷ es) = all_if (IsIn first (e ∷ es)) _ (record { number = first; entry = e }) (own seat (first + 1) es) (record { place = 0; number = omega arith; entry = refl }) (in_later first e es (own seat (first + 1) es) (own_in seat (first + 1) es))

-- ---- by number and by value

pub same_told : (first : ℕ) (es : List Entry) (rs os : List Told) → All (IsOf first es) rs → All (IsIn first es) os → numbers_of rs ≡ numbers_of os → rs ≡ os
same_told first es [] [] h t is = refl
same_told first es [] (o ∷ os) h t is = absurd (cc)
same_told first es (r ∷ rs) [] h t is = absurd (cc)
same_told first es (r ∷ rs) (o ∷ os) h t is =
    let both = heads_are r.number o.number (numbers_of rs) (numbers_of os) is in
    let there = All-head (IsIn first es) o os t in
    let here = All-head (IsOf first es) r rs h in
    let entry : r.entry ≡ o.entry = some_is r.entry o.entry (sym (here.entry there.place (both.0 ∙ there.number)) ∙ there.entry) in
    cons_is r o rs os (told_is r.number o.number r.entry o.entry both.0 entry) (same_told first es rs os (All-tail (IsOf first es) r rs h) (All-tail (IsIn first es) o os t) both.1)

pub all_of : (first : ℕ) (es : List Entry) (rs : List Told) → All (IsIn first es) (receipts_from first rs) → All (IsOf first es) rs
all_of first es [] h = All-nil (IsOf first es)
all_of first es (r ∷ rs) h =
    elim (cases_lt r.number first) [
      | inl a ↦ All-cons (IsOf first es) r rs (record { entry = λ k is. absurd (omega (arith, is, a)) }) (all_of first es rs (subst (All (IsIn first es)) (from_passes first r rs a) h))
      | inr b ↦
          let split : All (IsIn first es) (r ∷ receipts_from first rs) = subst (All (IsIn first es)) (from_begins_with first r rs b) h in
          let here = All-head (IsIn first es) r (receipts_from first rs) split in
          let of : IsOf first es r = record { entry = λ k is. (let at : here.place ≡ k = omega (arith, is, here.number) in ap (slice_get es) (sym at) ∙ here.entry) } in
          All-cons (IsOf first es) r rs of (all_of first es rs (All-tail (IsIn first es) r (receipts_from first rs) split))
    ]

account_is : (s s' : Settled) (d d' : List ℕ) → s ≡ s' → d ≡ d' → (let a : PlainAccount = record { settled = s; due = d } in a) ≡ record { settled = s'; due = d' }
account_is s s' d d' h t = rw (h, t) refl

module _ (l : PlainLedger) (first : ℕ) (es : List Entry) (ledger : IsLedger l first es) (s : PlainSeat) (a : PlainAccount) (at : slice_get l.accounts s.number ≡ Some a) (settled : a.settled ≡ s.settled) (numbers : numbers_of s.receipts ≡ a.due) where
  pub agreed : All (IsOf first es) s.receipts → Agrees l first es s
  agreed h =
      let due : numbers_from first a.due ≡ numbers_of (receipts_from a.settled.until (own s.number first es)) = (ledger.each s.number a at).due in
      let same : numbers_of (receipts_from first s.receipts) ≡ numbers_of (receipts_from s.settled.until (own s.number first es)) =
      sym (numbers_of_from first s.receipts) ∙ ap (numbers_from first) numbers ∙ due ∙ ap (λ (x : Settled). numbers_of (receipts_from x.until (own s.number first es))) settled in
      record {
        account = at ∙ ap Some (account_is a.settled s.settled a.due (numbers_of s.receipts) settled (sym numbers));
        told = sym (same_told first es (receipts_from first s.receipts) (receipts_from s.settled.until (own s.number first es))
            (from_keeps (IsOf first es) first s.receipts h) (from_keeps (IsIn first es) s.settled.until (own s.number first es) (own_in s.number first es)) same);
      }

pub agreed_of : (l : PlainLedger) (first : ℕ) (es : List Entry) (s : PlainSeat) → Agrees l first es s → All (IsOf first es) s.receipts
agreed_of l first es s h = all_of first es s.receipts (subst (All (IsIn first es)) h.told (from_keeps (IsIn first es) s.settled.until (own s.number first es) (own_in s.number first es)))

-- What an accepted call, a seat that settles and a forget leave of the ledger.
use Rattle.std.proofs.Common.{◌≡◌, ◌≢◌, ◌∙◌, inl, inr, ◌⊎◌, ℕ, zero, suc, ◌+◌, ◌≤◌, ◌<◌, ◌*◌, List, [], ◌∷◌, ◌++◌, Bool, true, false, cond, ◌==◌, nat_le, nat_lt, set, replicate, Option, None, Some, slice_get, length, refl, sym, ap, subst, arith}
use Rattle.std.specs.List.{sum_by}
use Rattle.std.proofs.lemmas.Bool.{cases_lt, cond-false, cond-true}
use Rattle.std.proofs.lemmas.Bool.Decides.{eqb_tells, nat_tests}
use Rattle.std.proofs.lemmas.List.{get_or-replicate, length-map, length-replicate, length_push, length-set, map-append}
use Rattle.std.proofs.lemmas.List.Folds.{sum_by-replicate}
use Rattle.std.proofs.lemmas.List.Sums.{count_by-le-length, sum_by-cons}
use Rattle.std.proofs.lemmas.Option.{get_or_from_slice_get, slice_get_within}
use Rattle.histories.specs.Histories.{Entry, Told, own}
use Rattle.hub.specs.Ledgers.{Agrees, IsAccount, IsLedger, PlainAccount, PlainLedger, cleared}
use Rattle.hub.specs.Ledgers.{cleared_of, due_at, noted, noted_at, numbers_from, numbers_of}
use Rattle.hub.specs.Ledgers.{settled_of, times_due}
use Rattle.hub.specs.LedgerViews.{fresh, opened_for}
use Rattle.hub.specs.Seats.{PlainSeat, by_number, held, own_reach, receipts_from, told_at}
use Rattle.hub.specs.declared.settled.Settled.{Settled}
use Rattle.hub.proofs.PlaceLemmas.{from_passes, one_if}
use Rattle.hub.proofs.SettleLemmas.{from_begins_with, some_is}
use Rattle.hub.proofs.AuditLemmas.{told_due}

is_one : (b : Bool) → b ≡ true → one_if b ≡ 1
is_one b h = cond-true b 1 0 h

is_nought : (b : Bool) → b ≡ false → one_if b ≡ 0
is_nought b h = cond-false b 1 0 h

-- ---- one place is written

pub set_cases : {X : Type 0} (xs : List X) (i j : ℕ) (y b : X) → slice_get (set xs i y) j ≡ Some b → ((j ≡ i) × (b ≡ y)) ⊎ ((j ≢ i) × (slice_get xs j ≡ Some b))
set_cases [] i j y b h = absurd (cc)
set_cases (x ∷ xs) zero zero y b h = inl (refl, sym (some_is y b h))
set_cases (x ∷ xs) zero (suc j) y b h = inr (λ is. absurd (omega (arith, is)), h)
set_cases (x ∷ xs) (suc i) zero y b h = inr (λ is. absurd (omega (arith, is)), h)
set_cases (x ∷ xs) (suc i) (suc j) y b h =
    elim (set_cases xs i j y b h) [
      | inl p ↦ inl (ap suc p.0, p.1)
      | inr q ↦ inr (λ is. q.0 (omega (arith, is)), q.1)
    ]

pub sum_set : {X : Type 0} (F : X → ℕ) (xs : List X) (i : ℕ) (x y : X) → slice_get xs i ≡ Some x → sum_by F (set xs i y) + F x ≡ sum_by F xs + F y
sum_set F [] i x y h = absurd (cc)
sum_set F (z ∷ xs) zero x y h =
    let same : z ≡ x = some_is z x h in
    omega (arith, sum_by-cons F z xs, sum_by-cons F y xs, ap F same)
sum_set F (z ∷ xs) (suc i) x y h = omega (arith, sum_by-cons F z xs, sum_by-cons F z (set xs i y), sum_set F xs i x y h)

pub one_of : {X : Type 0} (F : X → ℕ) (xs : List X) (i : ℕ) (x : X) → slice_get xs i ≡ Some x → F x ≤ sum_by F xs
one_of F [] i x h = absurd (cc)
one_of F (z ∷ xs) zero x h =
    let same : z ≡ x = some_is z x h in
    omega (arith, sum_by-cons F z xs, ap F same)
one_of F (z ∷ xs) (suc i) x h = omega (arith, sum_by-cons F z xs, one_of F xs i x h)

-- ---- one entry more

own_if : (b : Bool) (x : Told) (xs ys : List Told) → cond b (x ∷ (xs ++ ys)) (xs ++ ys) ≡ cond b (x ∷ xs) xs ++ ys
own_if true x xs ys = refl
own_if false x xs ys = refl

if_is : (b : Bool) (x : Told) (xs xs' : List Told) → xs ≡ xs' → cond b (x ∷ xs) xs ≡ cond b (x ∷ xs') xs'
if_is b x xs xs' h = ap (λ t. cond b (x ∷ t) t) h

pub own_push : (seat n : ℕ) (es : List Entry) (e : Entry) → own seat n (es ++ e ∷ []) ≡ own seat n es ++ own seat (n + length es) (e ∷ [])
own_push seat n [] e =
    let plus : n ≡ n + 0 = omega arith in
    ap (λ (k : ℕ). own seat k (e ∷ [])) plus
own_push seat n (x ∷ es) e =
    let plus : n + 1 + length es ≡ n + length (x ∷ es) = omega arith in
    let later : own seat (n + 1) (es ++ e ∷ []) ≡ own seat (n + 1) es ++ own seat (n + length (x ∷ es)) (e ∷ []) =
    own_push seat (n + 1) es e ∙ ap (λ (k : ℕ). own seat (n + 1) es ++ own seat k (e ∷ [])) plus in
    if_is (x.seat == seat) (record { number = n; entry = x }) _ _ later ∙ own_if (x.seat == seat) (record { number = n; entry = x }) (own seat (n + 1) es) (own seat (n + length (x ∷ es)) (e ∷ []))

from_if : (b : Bool) (x : Told) (xs ys : List Told) → cond b (x ∷ (xs ++ ys)) (xs ++ ys) ≡ cond b (x ∷ xs) xs ++ ys
from_if true x xs ys = refl
from_if false x xs ys = refl

pub from_append : (n : ℕ) (xs ys : List Told) → receipts_from n (xs ++ ys) ≡ receipts_from n xs ++ receipts_from n ys
from_append n [] ys = refl
from_append n (x ∷ xs) ys = if_is (nat_le n x.number) x _ _ (from_append n xs ys) ∙ from_if (nat_le n x.number) x (receipts_from n xs) (receipts_from n ys)

number_if : (b : Bool) (x : ℕ) (xs ys : List ℕ) → cond b (x ∷ (xs ++ ys)) (xs ++ ys) ≡ cond b (x ∷ xs) xs ++ ys
number_if true x xs ys = refl
number_if false x xs ys = refl

pub numbers_append : (n : ℕ) (xs ys : List ℕ) → numbers_from n (xs ++ ys) ≡ numbers_from n xs ++ numbers_from n ys
numbers_append n [] ys = refl
numbers_append n (x ∷ xs) ys = ap (λ t. cond (nat_le n x) (x ∷ t) t) (numbers_append n xs ys) ∙ number_if (nat_le n x) x (numbers_from n xs) (numbers_from n ys)

numbers_one : (n k : ℕ) → n ≤ k → numbers_from n (k ∷ []) ≡ k ∷ []
numbers_one n k le =
    let is : nat_le n k ≡ true = grind (arith, nat_tests) in
    cond-true (nat_le n k) (k ∷ []) [] is

due_append : (n : ℕ) (xs : List ℕ) (k : ℕ) → due_at n (xs ++ k ∷ []) ≡ due_at n xs + one_if (k == n)
due_append n [] k = omega arith
due_append n (x ∷ xs) k = omega (arith, due_append n xs k)

own_one : (seat n : ℕ) (e : Entry) → e.seat ≡ seat → own seat n (e ∷ []) ≡ record { number = n; entry = e } ∷ []
own_one seat n e is =
    let same : (e.seat == seat) ≡ true = grind (arith, nat_tests) in
    cond-true (e.seat == seat) (record { number = n; entry = e } ∷ []) [] same

own_none : (seat n : ℕ) (e : Entry) → e.seat ≢ seat → own seat n (e ∷ []) ≡ []
own_none seat n e differs =
    let other : (e.seat == seat) ≡ false = grind (arith, nat_tests) in
    cond-false (e.seat == seat) (record { number = n; entry = e } ∷ []) [] other

append_none : {X : Type 0} (xs : List X) → xs ++ [] ≡ xs
append_none [] = refl
append_none (x ∷ xs) = ap (λ t. x ∷ t) (append_none xs)

module _ (first : ℕ) (es : List Entry) (e : Entry) where
  longer : length (es ++ e ∷ []) ≡ length es + 1
  longer = length_push es e

  -- the account of another seat
  pub other_account : (seat : ℕ) (a : PlainAccount) → e.seat ≢ seat → IsAccount seat first es a → IsAccount seat first (es ++ e ∷ []) a
  other_account seat a differs h =
      let same : own seat first (es ++ e ∷ []) ≡ own seat first es =
      own_push seat first es e ∙ ap (λ t. own seat first es ++ t) (own_none seat (first + length es) e differs) ∙ append_none (own seat first es) in
      record {
        due = h.due ∙ ap (λ t. numbers_of (receipts_from a.settled.until t)) (sym same);
        until = omega (arith, h.until, longer);
        none = h.none;
        by_number = h.by_number;
      }

  -- and of the seat that called
  pub own_account : (seat : ℕ) (a : PlainAccount) → e.seat ≡ seat → IsAccount seat first es a → IsAccount seat first (es ++ e ∷ []) (record { settled = a.settled; due = a.due ++ (first + length es) ∷ [] })
  own_account seat a is h =
      let n = first + length es in
      let r : Told = record { number = n; entry = e } in
      let tail : receipts_from a.settled.until (own seat n (e ∷ [])) ≡ r ∷ [] =
      ap (receipts_from a.settled.until) (own_one seat n e is) ∙ from_begins_with a.settled.until r [] h.until in
      let all : receipts_from a.settled.until (own seat first (es ++ e ∷ [])) ≡ receipts_from a.settled.until (own seat first es) ++ r ∷ [] =
      ap (receipts_from a.settled.until) (own_push seat first es e) ∙ from_append a.settled.until (own seat first es) (own seat n (e ∷ [])) ∙ ap (λ t. receipts_from a.settled.until (own seat first es) ++ t) tail in
      let numbers : numbers_of (receipts_from a.settled.until (own seat first (es ++ e ∷ []))) ≡ numbers_of (receipts_from a.settled.until (own seat first es)) ++ n ∷ [] =
      ap numbers_of all ∙ map-append (λ (x : Told). x.number) (receipts_from a.settled.until (own seat first es)) (r ∷ []) in
      record {
        due = numbers_append first a.due (n ∷ []) ∙ ap (λ t. t ++ numbers_from first (n ∷ [])) h.due ∙ ap (λ t. numbers_of (receipts_from a.settled.until (own seat first es)) ++ t) (numbers_one first n (omega arith)) ∙ sym numbers;
        until = omega (arith, h.until, longer);
        none = h.none;
        by_number = h.by_number;
      }

length_one : (xs : List ℕ) (k : ℕ) → length (xs ++ k ∷ []) ≡ length xs + 1
length_one xs k = length_push xs k

-- ---- AN ACCEPTED CALL

module _ (l : PlainLedger) (first : ℕ) (es : List Entry) (e : Entry) (h : IsLedger l first es) where
  ours : (a : PlainAccount) → slice_get l.accounts e.seat ≡ Some a → IsLedger (noted_at l e.seat (first + length es) (Some a)) first (es ++ e ∷ [])
  ours a at =
      let n = first + length es in
      let b : PlainAccount = record { settled = a.settled; due = a.due ++ n ∷ [] } in
      let more = longer first es e in
      let due : (k : ℕ) → times_due k (set l.accounts e.seat b) ≡ times_due k l.accounts + one_if (n == k) =
      λ k. omega (arith, sum_set (λ (x : PlainAccount). due_at k x.due) l.accounts e.seat a b at, due_append k a.due n) in
      record {
        each = λ i x is.
            elim (set_cases l.accounts e.seat i b x is) [
              | inl p ↦ subst (λ (y : PlainAccount). IsAccount i first (es ++ e ∷ []) y) (sym p.1) (own_account first es e i a (sym p.0) (h.each i a (subst (λ k. slice_get l.accounts k ≡ Some a) (sym p.0) at)))
              | inr q ↦ other_account first es e i x (λ is. q.0 (sym is)) (h.each i x q.1)
            ];
        once = λ k.
            elim (eqb_tells n k) [
              | inl y ↦ omega (arith, due k, h.others k (omega (arith, y.1)), is_one (n == k) y.0)
              | inr d ↦ omega (arith, due k, h.once k, is_nought (n == k) d.0)
            ];
        others = λ k le.
            let other : (n == k) ≡ false = (let lt : n < k = omega (arith, le, more) in grind (arith, nat_tests)) in
            omega (arith, due k, h.others k (omega (arith, le, more)), is_nought (n == k) other);
        settled = omega (arith, sum_set (λ (x : PlainAccount). x.settled.count) l.accounts e.seat a b at, h.settled);
        total = omega (arith, sum_set (λ (x : PlainAccount). length x.due) l.accounts e.seat a b at, h.total, more, length_one a.due n);
      }

  strange : slice_get l.accounts e.seat ≡ None → IsLedger (noted_at l e.seat (first + length es) None) first (es ++ e ∷ [])
  strange none =
      let more = longer first es e in
      record {
        each = λ i x is. other_account first es e i x (λ same. (let no : None ≡ Some x = sym none ∙ ap (slice_get l.accounts) same ∙ is in cc)) (h.each i x is);
        once = h.once;
        others = λ k le. h.others k (omega (arith, le, more));
        settled = h.settled;
        total = omega (arith, h.total, more);
      }

  by_cases : (o : Option PlainAccount) → slice_get l.accounts e.seat ≡ o → IsLedger (noted_at l e.seat (first + length es) o) first (es ++ e ∷ [])
  by_cases None at = strange at
  by_cases (Some a) at = ours a at

  pub noted_kept : IsLedger (noted l e.seat (first + length es)) first (es ++ e ∷ [])
  noted_kept = by_cases (slice_get l.accounts e.seat) refl

pub noted_many : (l : PlainLedger) (seat n : ℕ) (o : Option PlainAccount) → length (noted_at l seat n o).accounts ≡ length l.accounts
noted_many l seat n None = refl
noted_many l seat n (Some a) = length-set l.accounts seat (record { settled = a.settled; due = a.due ++ n ∷ [] })

-- as the code passes through it: what was there, what room was made for, and what stands there now
pub noted_is : (new mid before old : PlainLedger) (s s' n n' : ℕ) → new ≡ noted mid s n → mid ≡ before → before ≡ old → s ≡ s' → n ≡ n' → new ≡ noted old s' n'
noted_is new mid before old s s' n n' is room same seat number = is ∙ ap (λ l. noted l s n) (room ∙ same) ∙ ap (λ (k : ℕ). noted old k n) seat ∙ ap (λ (k : ℕ). noted old s' k) number

pub many_next : (new mid before : PlainLedger) (s n many : ℕ) → new ≡ noted mid s n → mid ≡ before → length before.accounts ≡ many → length new.accounts ≡ many
many_next new mid before s n many is room h =
    ap (λ (l : PlainLedger). length l.accounts) (is ∙ ap (λ l. noted l s n) room) ∙ noted_many before s n (slice_get before.accounts s) ∙ h

pub noted_next : (new mid before : PlainLedger) (first : ℕ) (es room now : List Entry) (e : Entry) (s n : ℕ) → new ≡ noted mid s n → mid ≡ before → e.seat ≡ s → n ≡ first + length es
    → now ≡ room ++ e ∷ [] → room ≡ es → IsLedger before first es → IsLedger new first now
noted_next new mid before first es room now e s n is same seat number pushed there h =
    let entries : now ≡ es ++ e ∷ [] = pushed ∙ ap (λ x. x ++ e ∷ []) there in
    let ledger : new ≡ noted before e.seat (first + length es) = noted_is new mid before before s e.seat n (first + length es) is same refl (sym seat) number in
    subst (λ (l : PlainLedger). IsLedger l first now) (sym ledger) (subst (λ x. IsLedger (noted before e.seat (first + length es)) first x) (sym entries) (noted_kept before first es e h))

-- ---- A SEAT SETTLES

pub held_within : (n : ℕ) (rs : List Told) → ((k : ℕ) → n ≤ k → told_at k rs ≡ 0) → held rs ≤ n
held_within n [] h = omega arith
held_within n (r ∷ rs) h =
    let rest : held rs ≤ n = held_within n rs (λ k le. omega (arith, h k le)) in
    elim (cases_lt r.number n) [
      | inl a ↦ omega (arith, a, rest)
      | inr b ↦
          let same : (r.number == r.number) ≡ true = grind (arith, nat_tests) in
          absurd (omega (arith, h r.number b, is_one (r.number == r.number) same))
    ]

held_from : (n : ℕ) (rs : List Told) → held (receipts_from n rs) ≤ held rs
held_from n [] = omega arith
held_from n (r ∷ rs) =
    elim (cases_lt r.number n) [
      | inl a ↦ omega (arith, ap held (from_passes n r rs a), held_from n rs)
      | inr b ↦ omega (arith, ap held (from_begins_with n r rs b), held_from n rs)
    ]

-- those from u on are all below v, so none is from v on
none_left : (u v : ℕ) (rs : List Told) → u ≤ v → held (receipts_from u rs) ≤ v → receipts_from v rs ≡ []
none_left u v [] le h = refl
none_left u v (r ∷ rs) le h =
    elim (cases_lt r.number u) [
      | inl a ↦ from_passes v r rs (omega (arith, a, le)) ∙ none_left u v rs le (omega (arith, h, ap held (from_passes u r rs a)))
      | inr b ↦
          let split = ap held (from_begins_with u r rs b) in
          from_passes v r rs (omega (arith, split, h)) ∙ none_left u v rs le (omega (arith, split, h))
    ]

held_none : (rs : List Told) → length rs ≡ 0 → held rs ≡ 0
held_none [] h = refl
held_none (r ∷ rs) h = absurd (omega (arith, h))

module _ (l : PlainLedger) (first : ℕ) (es : List Entry) (h : IsLedger l first es) (s : PlainSeat) (agrees : Agrees l first es s) where
  own_account_is : IsAccount s.number first es (record { settled = s.settled; due = numbers_of s.receipts })
  own_account_is = h.each s.number (record { settled = s.settled; due = numbers_of s.receipts }) agrees.account

  within : held s.receipts ≤ first + length es
  within = held_within (first + length es) s.receipts (λ k le.
      omega (arith, told_due k s.receipts, one_of (λ (x : PlainAccount). due_at k x.due) l.accounts s.number (record { settled = s.settled; due = numbers_of s.receipts }) agrees.account, h.others k le))

  many_numbers : length (numbers_of s.receipts) ≡ length s.receipts
  many_numbers = length-map s.receipts (λ (r : Told). r.number)

  pub reach_within : own_reach s ≤ first + length es
  reach_within = omega (arith, within, own_account_is.until)

  ended : IsAccount s.number first es (record { settled = settled_of first s; due = [] })
  ended =
      let few : held (receipts_from s.settled.until (own s.number first es)) ≤ own_reach s = omega (arith, ap held agrees.told, held_from first s.receipts) in
      record {
        due = sym (ap numbers_of (none_left s.settled.until (own_reach s) (own s.number first es) (omega arith) few));
        until = reach_within;
        none = λ nought. (let empty : held s.receipts ≡ 0 = held_none s.receipts (omega (arith, nought)) in let before : s.settled.until ≡ 0 = own_account_is.none (omega (arith, nought)) in omega (arith, empty, before));
        by_number = omega (arith, own_account_is.by_number, count_by-le-length (λ (r : Told). nat_lt r.number first) s.receipts);
      }

  pub settled_kept : IsLedger (cleared_of l first s) first es
  settled_kept =
      let a : PlainAccount = record { settled = s.settled; due = numbers_of s.receipts } in
      let b : PlainAccount = record { settled = settled_of first s; due = [] } in
      let due : (k : ℕ) → times_due k (set l.accounts s.number b) + due_at k (numbers_of s.receipts) ≡ times_due k l.accounts = λ k. omega (arith, sum_set (λ (x : PlainAccount). due_at k x.due) l.accounts s.number a b agrees.account) in
      let counts = sum_set (λ (x : PlainAccount). x.settled.count) l.accounts s.number a b agrees.account in
      let dues = sum_set (λ (x : PlainAccount). length x.due) l.accounts s.number a b agrees.account in
      record {
        each = λ i x is.
            elim (set_cases l.accounts s.number i b x is) [
              | inl p ↦ subst (λ (y : PlainAccount). IsAccount i first es y) (sym p.1) (subst (λ k. IsAccount k first es b) (sym p.0) ended)
              | inr q ↦ h.each i x q.1
            ];
        once = λ k. omega (arith, due k, h.once k);
        others = λ k le. omega (arith, due k, h.others k le);
        settled = omega (arith, counts, h.settled);
        total = omega (arith, dues, h.total, many_numbers);
      }

  -- what the counters count fits
  pub settled_fits : l.settled + length s.receipts ≤ first + length es
  settled_fits = omega (arith, h.total, one_of (λ (x : PlainAccount). length x.due) l.accounts s.number (record { settled = s.settled; due = numbers_of s.receipts }) agrees.account, many_numbers)

  pub count_fits : s.settled.count + length s.receipts ≤ first + length es
  count_fits = omega (arith, settled_fits, h.settled, one_of (λ (x : PlainAccount). x.settled.count) l.accounts s.number (record { settled = s.settled; due = numbers_of s.receipts }) agrees.account)

  pub by_number_fits : by_number first s ≤ first + length es
  by_number_fits = omega (arith, count_fits, own_account_is.by_number, count_by-le-length (λ (r : Told). nat_lt r.number first) s.receipts)

  pub seat_within : s.number < length l.accounts
  seat_within = slice_get_within l.accounts s.number (record { settled = s.settled; due = numbers_of s.receipts }) agrees.account

pub cleared_is : (new l : PlainLedger) (n n' : ℕ) (t t' : Settled) (c c' : ℕ) → new ≡ cleared l n t c → n ≡ n' → t ≡ t' → c ≡ c' → new ≡ cleared l n' t' c'
cleared_is new l n n' t t' c c' is p q r = is ∙ rw (p, q, r) refl

pub cleared_many : (new l : PlainLedger) (n : ℕ) (t : Settled) (c many : ℕ) → new ≡ cleared l n t c → length l.accounts ≡ many → length new.accounts ≡ many
cleared_many new l n t c many is h = ap (λ (x : PlainLedger). length x.accounts) is ∙ length-set l.accounts n (record { settled = t; due = [] }) ∙ h

pub settled_as : (c c' u u' n n' : ℕ) → c ≡ c' → u ≡ u' → n ≡ n' → (let s : Settled = record { count = c; until = u; by_number = n } in s) ≡ record { count = c'; until = u'; by_number = n' }
settled_as c c' u u' n n' h t r = rw (h, t, r) refl

-- ---- A FORGET

none_due : (n : ℕ) (ks : List ℕ) → ((k : ℕ) → n ≤ k → due_at k ks ≡ 0) → numbers_from n ks ≡ []
none_due n [] h = refl
none_due n (x ∷ ks) h =
    elim (cases_lt x n) [
      | inl a ↦
          let is : nat_le n x ≡ false = grind (arith, nat_tests) in
          cond-false (nat_le n x) (x ∷ numbers_from n ks) (numbers_from n ks) is ∙ none_due n ks (λ k le. omega (arith, h k le))
      | inr b ↦
          let same : (x == x) ≡ true = grind (arith, nat_tests) in
          absurd (omega (arith, h x b, is_one (x == x) same))
    ]

pub forgotten_kept : (l : PlainLedger) (first n : ℕ) (es : List Entry) → n ≡ first + length es → IsLedger l first es → IsLedger l n []
forgotten_kept l first n es is h = record {
  each = λ i a at.
      let account = h.each i a at in
      record {
        due = none_due n a.due (λ k le. omega (arith, one_of (λ (x : PlainAccount). due_at k x.due) l.accounts i a at, h.others k (omega (arith, le, is))));
        until = omega (arith, account.until, is);
        none = account.none;
        by_number = account.by_number;
      };
  once = h.once;
  others = λ k le. h.others k (omega (arith, le, is));
  settled = h.settled;
  total = omega (arith, h.total, is);
}

-- ---- A HUB THAT WAS JUST OPENED

fresh_at : (n i : ℕ) (a : PlainAccount) → slice_get (replicate n fresh) i ≡ Some a → a ≡ fresh
fresh_at n i a h =
    let lt : i < n = (let within = slice_get_within (replicate n fresh) i a h in omega (arith, within, length-replicate n fresh)) in
    sym (get_or_from_slice_get (replicate n fresh) i a fresh h) ∙ get_or-replicate n i fresh fresh lt

nought_times : (n m : ℕ) → m ≡ 0 → n * m ≡ 0
nought_times n m h = ap (λ (k : ℕ). n * k) h ∙ omega arith

sum_fresh : (F : PlainAccount → ℕ) (n : ℕ) → F fresh ≡ 0 → sum_by F (replicate n fresh) ≡ 0
sum_fresh F n h = sum_by-replicate F n fresh ∙ nought_times n (F fresh) h

pub fresh_kept : (seats : ℕ) → IsLedger (opened_for seats) 0 []
fresh_kept seats = record {
  each = λ i a at. subst (λ (x : PlainAccount). IsAccount i 0 [] x) (sym (fresh_at seats i a at)) (record { due = refl; until = omega arith; none = λ is. refl; by_number = omega arith });
  once = λ n. omega (arith, sum_fresh (λ (x : PlainAccount). due_at n x.due) seats refl);
  others = λ n le. sum_fresh (λ (x : PlainAccount). due_at n x.due) seats refl;
  settled = sum_fresh (λ (x : PlainAccount). x.settled.count) seats refl;
  total = omega (arith, sum_fresh (λ (x : PlainAccount). length x.due) seats refl);
}

-- What the seats tell together, where each agrees with the hub.
use Rattle.std.proofs.Common.{◌-◌, nat_lt, ◌≡◌, ◌∙◌, inl, inr, ℕ, zero, suc, ◌+◌, ◌≤◌, ◌<◌, List, [], ◌∷◌, Bool, true, false, cond, ◌==◌, All, count_by, Some, slice_get, length, max, refl, sym, ap, arith}
use Rattle.std.specs.List.{sum_by}
use Rattle.std.proofs.lemmas.Bool.{cond-false, cond-true}
use Rattle.std.proofs.lemmas.Bool.Decides.{eqb_tells, nat_tests}
use Rattle.std.proofs.lemmas.List.{length-map}
use Rattle.std.proofs.lemmas.List.Elements.{All-cons, All-head, All-nil, All-tail}
use Rattle.std.proofs.lemmas.List.Sums.{count_by-le-length, sum_by-cons}
use Rattle.histories.specs.Histories.{Entry, Told, own}
use Rattle.hub.specs.Audits.{IsAccounted, alone}
use Rattle.hub.specs.Ledgers.{Agrees, IsLedger, PlainAccount, PlainLedger, due_at, numbers_of, times_due}
use Rattle.hub.specs.Seats.{IsAudited, PlainSeat, by_number, held, receipts_from, times_told, told_at, unsettled}
use Rattle.hub.specs.declared.settled.Settled.{Settled}
use Rattle.hub.proofs.PlaceLemmas.{one_if, told_below_more, below_nought}
use Rattle.hub.proofs.Places.{told_below}
use Rattle.hub.proofs.SettleLemmas.{from_begins_with}

-- ---- one term for each account, and one for each seat

-- the term of the account of this number, where the first account has the number j
abbrev look : (PlainAccount → ℕ) → ℕ → List PlainAccount → ℕ → ℕ
look F j [] k = 0
look F j (a ∷ more) k = cond (k == j) (F a) 0 + look F (j + 1) more k

abbrev looks : (PlainAccount → ℕ) → ℕ → List PlainAccount → List PlainSeat → ℕ
looks F j accounts [] = 0
looks F j accounts (s ∷ ss) = look F j accounts s.number + looks F j accounts ss

abbrev many_of : ℕ → List PlainSeat → ℕ
many_of k ss = count_by (λ (s : PlainSeat). s.number == k) ss

many_more : (k : ℕ) (s : PlainSeat) (ss : List PlainSeat) → many_of k (s ∷ ss) ≡ one_if (s.number == k) + many_of k ss
many_more k s ss = sum_by-cons (λ (s : PlainSeat). one_if (s.number == k)) s ss

looks_none : (F : PlainAccount → ℕ) (j : ℕ) (ss : List PlainSeat) → looks F j [] ss ≡ 0
looks_none F j [] = refl
looks_none F j (s ∷ ss) = omega (arith, looks_none F j ss)

module _ (F : PlainAccount → ℕ) (j : ℕ) (a : PlainAccount) (more : List PlainAccount) where
  at_no : (b : Bool) → b ≡ false → cond b (F a) 0 ≡ 0
  at_no b h = cond-false b (F a) 0 h

  at_yes : (b : Bool) → b ≡ true → cond b (F a) 0 ≡ F a
  at_yes b h = cond-true b (F a) 0 h

  one_no : (b : Bool) → b ≡ false → one_if b ≡ 0
  one_no b h = cond-false b 1 0 h

  one_yes : (b : Bool) → b ≡ true → one_if b ≡ 1
  one_yes b h = cond-true b 1 0 h

  looks_not : (ss : List PlainSeat) → many_of j ss ≡ 0 → looks F j (a ∷ more) ss ≡ looks F (j + 1) more ss
  looks_not [] h = refl
  looks_not (s ∷ ss) h =
      elim (eqb_tells s.number j) [
        | inl y ↦ absurd (omega (arith, h, many_more j s ss, one_yes (s.number == j) y.0))
        | inr n ↦ omega (arith, at_no (s.number == j) n.0, looks_not ss (omega (arith, h, many_more j s ss)))
      ]

  looks_once : (ss : List PlainSeat) → many_of j ss ≡ 1 → looks F j (a ∷ more) ss ≡ F a + looks F (j + 1) more ss
  looks_once [] h = absurd (cc)
  looks_once (s ∷ ss) h =
      elim (eqb_tells s.number j) [
        | inl y ↦ omega (arith, at_yes (s.number == j) y.0, looks_not ss (omega (arith, h, many_more j s ss, one_yes (s.number == j) y.0)))
        | inr n ↦ omega (arith, at_no (s.number == j) n.0, looks_once ss (omega (arith, h, many_more j s ss, one_no (s.number == j) n.0)))
      ]

-- each seat is there once: the terms of the seats are those of the accounts
whole : (F : PlainAccount → ℕ) (j : ℕ) (accounts : List PlainAccount) (ss : List PlainSeat) → ((k : ℕ) → j ≤ k → k < j + length accounts → many_of k ss ≡ 1) → looks F j accounts ss ≡ sum_by F accounts
whole F j [] ss each = looks_none F j ss
whole F j (a ∷ more) ss each =
    let one = looks_once F j a more ss (each j (omega arith) (omega arith)) in
    let rest = whole F (j + 1) more ss (λ k le lt. each k (omega (arith, le)) (omega (arith, lt))) in
    omega (arith, one, rest, sum_by-cons F a more)

look_below : (F : PlainAccount → ℕ) (j k : ℕ) (accounts : List PlainAccount) → k < j → look F j accounts k ≡ 0
look_below F j k [] lt = refl
look_below F j k (a ∷ more) lt =
    let other : (k == j) ≡ false = grind (arith, nat_tests) in
    omega (arith, at_no F j a more (k == j) other, look_below F (j + 1) k more (omega (arith, lt)))

look_at : (F : PlainAccount → ℕ) (j i k : ℕ) (accounts : List PlainAccount) (a : PlainAccount) → k ≡ j + i → slice_get accounts i ≡ Some a → look F j accounts k ≡ F a
look_at F j i k [] a is at = absurd (cc)
look_at F j zero k (b ∷ more) a is at =
    let same : (k == j) ≡ true = grind (arith, nat_tests) in
    let there : b ≡ a = cc in
    omega (arith, at_yes F j b more (k == j) same, look_below F (j + 1) k more (omega (arith, is)), ap F there)
look_at F j (suc i) k (b ∷ more) a is at =
    let other : (k == j) ≡ false = grind (arith, nat_tests) in
    omega (arith, at_no F j b more (k == j) other, look_at F (j + 1) i k more a (omega (arith, is)) at)

summed : (F : PlainAccount → ℕ) (G : PlainSeat → ℕ) (accounts : List PlainAccount) (ss : List PlainSeat) → All (λ (s : PlainSeat). G s ≡ look F 0 accounts s.number) ss → sum_by G ss ≡ looks F 0 accounts ss
summed F G accounts [] h = refl
summed F G accounts (s ∷ ss) h =
    omega (arith, sum_by-cons G s ss, All-head (λ (s : PlainSeat). G s ≡ look F 0 accounts s.number) s ss h, summed F G accounts ss (All-tail (λ (s : PlainSeat). G s ≡ look F 0 accounts s.number) s ss h))

-- ---- the terms that are of interest

abbrev account_of : PlainSeat → PlainAccount
account_of s = record { settled = s.settled; due = numbers_of s.receipts }

each_term : (l : PlainLedger) (first : ℕ) (es : List Entry) (F : PlainAccount → ℕ) (G : PlainSeat → ℕ) → ((s : PlainSeat) → G s ≡ F (account_of s)) → (ss : List PlainSeat) → All (Agrees l first es) ss
    → All (λ (s : PlainSeat). G s ≡ look F 0 l.accounts s.number) ss
each_term l first es F G same [] h = All-nil (λ (s : PlainSeat). G s ≡ look F 0 l.accounts s.number)
each_term l first es F G same (s ∷ ss) h =
    let here = All-head (Agrees l first es) s ss h in
    All-cons (λ (s : PlainSeat). G s ≡ look F 0 l.accounts s.number) s ss (same s ∙ sym (look_at F 0 s.number s.number l.accounts (account_of s) (omega arith) here.account)) (each_term l first es F G same ss (All-tail (Agrees l first es) s ss h))

pub as_one : (l : PlainLedger) (first : ℕ) (es : List Entry) (F : PlainAccount → ℕ) (G : PlainSeat → ℕ) → ((s : PlainSeat) → G s ≡ F (account_of s)) → (ss : List PlainSeat)
    → ((k : ℕ) → k < length l.accounts → many_of k ss ≡ 1) → All (Agrees l first es) ss → sum_by G ss ≡ sum_by F l.accounts
as_one l first es F G same ss each h = summed F G l.accounts ss (each_term l first es F G same ss h) ∙ whole F 0 l.accounts ss (λ k le lt. each k (omega (arith, lt)))

pub told_due : (n : ℕ) (rs : List Told) → told_at n rs ≡ due_at n (numbers_of rs)
told_due n [] = refl
told_due n (r ∷ rs) = ap (λ t. one_if (r.number == n) + t) (told_due n rs)

times_sum : (n : ℕ) (ss : List PlainSeat) → times_told n ss ≡ sum_by (λ (s : PlainSeat). told_at n s.receipts) ss
times_sum n [] = refl
times_sum n (s ∷ ss) = omega (arith, times_sum n ss, sum_by-cons (λ (s : PlainSeat). told_at n s.receipts) s ss)

pub sum_both : {X : Type 0} (f g : X → ℕ) (xs : List X) → sum_by (λ x. f x + g x) xs ≡ sum_by f xs + sum_by g xs
sum_both f g [] = refl
sum_both f g (x ∷ xs) = omega (arith, sum_both f g xs, sum_by-cons f x xs, sum_by-cons g x xs, sum_by-cons (λ x. f x + g x) x xs)

module _ (l : PlainLedger) (first : ℕ) (es : List Entry) (ledger : IsLedger l first es) (ss : List PlainSeat) (each : (k : ℕ) → k < length l.accounts → many_of k ss ≡ 1) (agree : All (Agrees l first es) ss) where
  pub told_as_due : (n : ℕ) → times_told n ss ≡ times_due n l.accounts
  told_as_due n = times_sum n ss ∙ as_one l first es (λ (a : PlainAccount). due_at n a.due) (λ (s : PlainSeat). told_at n s.receipts) (λ s. told_due n s.receipts) ss each agree

  pub all_told : sum_by (λ (s : PlainSeat). s.settled.count + length s.receipts) ss + l.strangers ≡ first + length es
  all_told =
      let same = as_one l first es (λ (a : PlainAccount). a.settled.count + length a.due) (λ (s : PlainSeat). s.settled.count + length s.receipts) (λ s. ap (λ n. s.settled.count + n) (sym (length-map s.receipts (λ (r : Told). r.number)))) ss each agree in
      let both = sum_both (λ (a : PlainAccount). a.settled.count) (λ (a : PlainAccount). length a.due) l.accounts in
      omega (arith, same, both, ledger.settled, ledger.total)

  pub all_settled : sum_by (λ (s : PlainSeat). s.settled.count) ss ≡ l.settled
  all_settled = as_one l first es (λ (a : PlainAccount). a.settled.count) (λ (s : PlainSeat). s.settled.count) (λ s. refl) ss each agree ∙ ledger.settled

  pub accounted : (count : ℕ) → length l.accounts ≡ count → length ss ≡ count → ((k : ℕ) → k < count → many_of k ss ≡ 1) → All (λ (e : Entry). e.seat < count) es → l.strangers ≡ 0 → IsAccounted l ss count first es
  accounted count is many known_each known none = record {
    many = many;
    each = known_each;
    known = known;
    agree = agree;
    once = λ n. omega (arith, told_as_due n, ledger.once n);
    others = λ n le. told_as_due n ∙ ledger.others n le;
    total = omega (arith, all_told, none);
  }

-- a hub that accepted a stranger's call is not accounted for
pub estranged_not : (l : PlainLedger) (first : ℕ) (es : List Entry) (ss : List PlainSeat) (count : ℕ) → IsLedger l first es → length l.accounts ≡ count → IsAccounted l ss count first es → l.strangers ≡ 0
estranged_not l first es ss count ledger is a =
    let each : (k : ℕ) → k < length l.accounts → many_of k ss ≡ 1 = λ k lt. a.each k (omega (arith, lt, is)) in
    omega (arith, all_told l first es ledger ss each a.agree, a.total)

counts_few : (l : PlainLedger) (first : ℕ) (es : List Entry) → IsLedger l first es → (ss : List PlainSeat) → All (Agrees l first es) ss → sum_by (by_number first) ss ≤ sum_by (λ (s : PlainSeat). s.settled.count + length s.receipts) ss
counts_few l first es ledger [] h = omega arith
counts_few l first es ledger (s ∷ ss) h =
    let account = ledger.each s.number (account_of s) (All-head (Agrees l first es) s ss h).account in
    omega (
      arith,
      sum_by-cons (by_number first) s ss,
      sum_by-cons (λ (s : PlainSeat). s.settled.count + length s.receipts) s ss,
      count_by-le-length (λ (r : Told). nat_lt r.number first) s.receipts,
      account.by_number,
      counts_few l first es ledger ss (All-tail (Agrees l first es) s ss h),
    )

-- of a hub that is accounted for
module _ (l : PlainLedger) (ss : List PlainSeat) (count first : ℕ) (es : List Entry) (ledger : IsLedger l first es) (is : length l.accounts ≡ count) (a : IsAccounted l ss count first es) where
  each_here : (k : ℕ) → k < length l.accounts → many_of k ss ≡ 1
  each_here k lt = a.each k (omega (arith, lt, is))

  pub settled_by_all : l.settled ≡ sum_by (λ (s : PlainSeat). s.settled.count) ss
  settled_by_all = sym (all_settled l first es ledger ss each_here a.agree)

  pub alone_fits : alone first ss ≤ first + length es
  alone_fits = omega (arith, counts_few l first es ledger ss a.agree, a.total)

settled_is : (c c' u u' n n' : ℕ) → c ≡ c' → u ≡ u' → n ≡ n' → (let s : Settled = record { count = c; until = u; by_number = n } in s) ≡ record { count = c'; until = u'; by_number = n' }
settled_is c c' u u' n n' h t r = rw (h, t, r) refl

none_settled : (l : PlainLedger) (first : ℕ) (es : List Entry) → IsLedger l first es → (ss : List PlainSeat) → All (Agrees l first es) ss → sum_by (λ (s : PlainSeat). s.settled.count) ss ≡ 0 → All (λ (s : PlainSeat). s.settled ≡ unsettled) ss
none_settled l first es ledger [] h t = All-nil (λ (s : PlainSeat). s.settled ≡ unsettled)
none_settled l first es ledger (s ∷ ss) h t =
    let split = sum_by-cons (λ (s : PlainSeat). s.settled.count) s ss in
    let none : s.settled.count ≡ 0 = omega (arith, t, split) in
    let account = ledger.each s.number (account_of s) (All-head (Agrees l first es) s ss h).account in
    All-cons (λ (s : PlainSeat). s.settled ≡ unsettled) s ss (settled_is s.settled.count 0 s.settled.until 0 s.settled.by_number 0 none (account.none none) (omega (arith, none, account.by_number))) (none_settled l first es ledger ss (All-tail (Agrees l first es) s ss h) (omega (arith, t, split)))

-- ---- where nothing was settled, each number is told once

abbrev below_all : ℕ → List PlainSeat → ℕ
below_all n [] = 0
below_all n (s ∷ ss) = told_below n s.receipts + below_all n ss

abbrev top : List PlainSeat → ℕ
top [] = 0
top (s ∷ ss) = max (held s.receipts) (top ss)

abbrev sizes : List PlainSeat → ℕ
sizes [] = 0
sizes (s ∷ ss) = length s.receipts + sizes ss

at_number : (a b : ℕ) (ss : List PlainSeat) → a ≡ b → below_all a ss ≡ below_all b ss
at_number a b ss h = ap (λ (k : ℕ). below_all k ss) h

next_below : (n : ℕ) (ss : List PlainSeat) → below_all (n + 1) ss ≡ below_all n ss + times_told n ss
next_below n [] = refl
next_below n (s ∷ ss) = omega (arith, next_below n ss, told_below_more n s.receipts)

none_below_all : (ss : List PlainSeat) → below_all 0 ss ≡ 0
none_below_all [] = refl
none_below_all (s ∷ ss) = omega (arith, below_nought s.receipts, none_below_all ss)

full_below : (n : ℕ) (rs : List Told) → held rs ≤ n → told_below n rs ≡ length rs
full_below n [] h = refl
full_below n (r ∷ rs) h =
    let lt : r.number < n = omega (arith, h) in
    let is : nat_lt r.number n ≡ true = grind (arith, nat_tests) in
    cond-true (nat_lt r.number n) (suc (told_below n rs)) (told_below n rs) is ∙ ap suc (full_below n rs (omega (arith, h)))

full_all : (n : ℕ) (ss : List PlainSeat) → top ss ≤ n → below_all n ss ≡ sizes ss
full_all n [] h = refl
full_all n (s ∷ ss) h = omega (arith, full_below n s.receipts (omega (arith, h)), full_all n ss (omega (arith, h)))

module _ (ss : List PlainSeat) (total : ℕ) (once : (n : ℕ) → times_told n ss ≤ 1) (others : (n : ℕ) → total ≤ n → times_told n ss ≡ 0) where
  no_more : (j : ℕ) → below_all (total + j) ss ≡ below_all total ss
  no_more zero = at_number (total + zero) total ss (omega arith)
  no_more (suc j) = omega (arith, at_number (total + suc j) (total + j + 1) ss (omega arith), next_below (total + j) ss, others (total + j) (omega arith), no_more j)

  slow : (n j : ℕ) → below_all (n + j) ss ≤ below_all n ss + j
  slow n zero = omega (arith, at_number (n + zero) n ss (omega arith))
  slow n (suc j) = omega (arith, at_number (n + suc j) (n + j + 1) ss (omega arith), next_below (n + j) ss, once (n + j), slow n j)

  few : (n : ℕ) → below_all n ss ≤ n
  few n = omega (arith, at_number (0 + n) n ss (omega arith), slow 0 n, none_below_all ss)

  reached_all : below_all total ss ≡ sizes ss
  reached_all = sym (no_more (top ss)) ∙ full_all (total + top ss) ss (omega arith)

  pub each_once : sizes ss ≡ total → (n j : ℕ) → total ≡ n + 1 + j → times_told n ss ≡ 1
  each_once all n j is =
      let at : below_all total ss ≡ below_all (n + 1 + j) ss = ap (λ k. below_all k ss) is in
      omega (arith, at, slow (n + 1) j, next_below n ss, few n, once n, reached_all, all)

sized : (ss : List PlainSeat) → All (λ (s : PlainSeat). s.settled ≡ unsettled) ss → sum_by (λ (s : PlainSeat). s.settled.count + length s.receipts) ss ≡ sizes ss
sized [] h = refl
sized (s ∷ ss) h =
    let none : s.settled.count ≡ 0 = ap (λ x. x.count) (All-head (λ (s : PlainSeat). s.settled ≡ unsettled) s ss h) in
    omega (arith, none, sum_by-cons (λ (s : PlainSeat). s.settled.count + length s.receipts) s ss, sized ss (All-tail (λ (s : PlainSeat). s.settled ≡ unsettled) s ss h))

all_from_nought : (rs : List Told) → receipts_from 0 rs ≡ rs
all_from_nought [] = refl
all_from_nought (r ∷ rs) = from_begins_with 0 r rs (omega arith) ∙ ap (λ t. r ∷ t) (all_from_nought rs)

told_whole : (l : PlainLedger) (first : ℕ) (es : List Entry) (ss : List PlainSeat) → All (λ (s : PlainSeat). s.settled ≡ unsettled) ss → All (Agrees l first es) ss → All (λ (s : PlainSeat). own s.number first es ≡ receipts_from first s.receipts) ss
told_whole l first es [] h t = All-nil (λ (s : PlainSeat). own s.number first es ≡ receipts_from first s.receipts)
told_whole l first es (s ∷ ss) h t =
    let none : s.settled.until ≡ 0 = ap (λ x. x.until) (All-head (λ (s : PlainSeat). s.settled ≡ unsettled) s ss h) in
    let here : own s.number first es ≡ receipts_from first s.receipts =
    sym (all_from_nought (own s.number first es)) ∙ ap (λ n. receipts_from n (own s.number first es)) (sym none) ∙ (All-head (Agrees l first es) s ss t).told in
    All-cons (λ (s : PlainSeat). own s.number first es ≡ receipts_from first s.receipts) s ss here (told_whole l first es ss (All-tail (λ (s : PlainSeat). s.settled ≡ unsettled) s ss h) (All-tail (Agrees l first es) s ss t))

-- SEATS THAT NEVER SETTLED are audited as those of a hub in which nobody can
pub unsettled_audited : (l : PlainLedger) (ss : List PlainSeat) (count first : ℕ) (es : List Entry) → IsAccounted l ss count first es → All (λ (s : PlainSeat). s.settled ≡ unsettled) ss → IsAudited ss count first es
unsettled_audited l ss count first es a h = record {
  many = a.many;
  each = a.each;
  known = a.known;
  told = told_whole l first es ss h a.agree;
  once = λ n lt. each_once ss (first + length es) a.once a.others (sym (sized ss h) ∙ a.total) n (first + length es - (n + 1)) (omega (arith, lt));
  others = a.others;
}

-- and where the hub settled nothing
pub audited_as_ever : (l : PlainLedger) (ss : List PlainSeat) (count first : ℕ) (es : List Entry) → IsLedger l first es → length l.accounts ≡ count → IsAccounted l ss count first es → l.settled ≡ 0 → IsAudited ss count first es
audited_as_ever l ss count first es ledger is a none =
    unsettled_audited l ss count first es a (none_settled l first es ledger ss a.agree (sym (settled_by_all l ss count first es ledger is a) ∙ none))

-- what is counted, as the code passes through it
pub alone_is : (r : ℕ) (xs ss : List PlainSeat) (f f' : ℕ) → r ≡ alone f xs → xs ≡ ss → f ≡ f' → r ≡ alone f' ss
alone_is r xs ss f f' is seats first = is ∙ ap (alone f) seats ∙ ap (λ (k : ℕ). alone k ss) first

-- Of the elements that came later than one, as many are shown as a window of last rows has.
use Rattle.std.proofs.Common.{◌≡◌, ℕ, zero, suc, ◌≤◌, ◌<◌, ◌==◌, Bool, true, false, cond, ◌&&◌, ◌||◌, nat_le, nat_lt, List, [], ◌∷◌, refl, ap, sym, ◌∙◌, arith, true≢false, ◌⊎◌, inl, inr, ltb-true, ltb-false, lt-ltb, eqb-true, eq-eqb, subst}
use Rattle.std.specs.Ordering.{is_eq}
use Rattle.std.specs.Cmp.{Equal-is}
use Rattle.values.specs.Row.{Row, value_at, value_cmp}
use Rattle.values.specs.Window.{Element, is_later, same_in, counts}
use Rattle.values.proofs.Order.{value_order}
use Rattle.values.proofs.Windows.{tally}

pub and_true : (a b : Bool) → (a && b) ≡ true → (a ≡ true) × (b ≡ true)
and_true true true h = (refl, refl)
and_true true false h = cc
and_true false b h = cc

pub and_both : (a b : Bool) → a ≡ true → b ≡ true → (a && b) ≡ true
and_both true true h k = refl
and_both true false h k = cc
and_both false b h k = cc

pub tally_le : (q r : Element → Bool) → ((x : Element) → q x ≡ true → r x ≡ true) → (xs : List Element) → tally q xs ≤ tally r xs
tally_le q r f [] = omega arith
tally_le q r f (x ∷ xs) = here (q x) refl (r x) refl (tally_le q r f xs)
  where
    here : (b : Bool) → q x ≡ b → (c : Bool) → r x ≡ c → tally q xs ≤ tally r xs → cond b (suc (tally q xs)) (tally q xs) ≤ cond c (suc (tally r xs)) (tally r xs)
    here true e true g k = omega (arith, k)
    here true e false g k = absurd (true≢false (sym (f x e) ∙ g))
    here false e true g k = omega (arith, k)
    here false e false g k = k

-- x is one of the list
abbrev pub In : Element → List Element → Type 0
In x [] = ⊥
In x (y ∷ ys) = (y ≡ x) ⊎ In x ys

-- one more passes r
pub tally_lt : (q r : Element → Bool) → ((x : Element) → q x ≡ true → r x ≡ true) → (y : Element) → q y ≡ false → r y ≡ true → (xs : List Element) → In y xs → tally q xs < tally r xs
tally_lt q r f y n p [] i = absurd i
tally_lt q r f y n p (x ∷ xs) i = here (λ j. tally_lt q r f y n p xs j) (q x) refl (r x) refl (tally_le q r f xs) i
  where
    both : (In y xs → tally q xs < tally r xs) → (x ≡ y) ⊎ In y xs → q x ≡ true → suc (tally q xs) < suc (tally r xs)
    both later (inl e) t = absurd (true≢false (sym t ∙ ap q e ∙ n))
    both later (inr j) t = omega (arith, later j)

    none : (In y xs → tally q xs < tally r xs) → (x ≡ y) ⊎ In y xs → r x ≡ false → tally q xs < tally r xs
    none later (inl e) t = absurd (true≢false (sym p ∙ ap r (sym e) ∙ t))
    none later (inr j) t = later j

    here : (In y xs → tally q xs < tally r xs) → (b : Bool) → q x ≡ b → (c : Bool) → r x ≡ c → tally q xs ≤ tally r xs → (x ≡ y) ⊎ In y xs → cond b (suc (tally q xs)) (tally q xs) < cond c (suc (tally r xs)) (tally r xs)
    here later true e true g k j = both later j e
    here later true e false g k j = absurd (true≢false (sym (f x e) ∙ g))
    here later false e true g k j = omega (arith, k)
    here later false e false g k j = none later j g

-- all that pass p pass s too, or one does not
pub data Finds (p s : Element → Bool) (xs : List Element) : Type 0 where
  all_do : ((x : Element) → In x xs → p x ≡ true → s x ≡ true) → Finds p s xs
  one_not : (x : Element) → In x xs → p x ≡ true → s x ≡ false → Finds p s xs

pub find : (p s : Element → Bool) (xs : List Element) → Finds p s xs
find p s [] = all_do (λ x i. absurd i)
find p s (y ∷ ys) = here (find p s ys) (p y) refl (s y) refl
  where
    first_is : (p y ≡ true → s y ≡ true) → ((x : Element) → In x ys → p x ≡ true → s x ≡ true) → (x : Element) → (y ≡ x) ⊎ In x ys → p x ≡ true → s x ≡ true
    first_is f g x (inl e) h = subst (λ z. p z ≡ true → s z ≡ true) e f h
    first_is f g x (inr i) h = g x i h

    here : Finds p s ys → (b : Bool) → p y ≡ b → (c : Bool) → s y ≡ c → Finds p s (y ∷ ys)
    here (one_not x i h k) b e c f = one_not x (inr i) h k
    here (all_do g) true e true f = all_do (first_is (λ h. f) g)
    here (all_do g) true e false f = one_not y (inl refl) e f
    here (all_do g) false e c f = all_do (first_is (λ h. absurd (true≢false (sym h ∙ e))) g)

-- on the list itself p gives s
tally_same_in : (p s : Element → Bool) (xs : List Element) → ((x : Element) → In x xs → p x ≡ true → s x ≡ true) → tally p xs ≤ tally (λ x. p x && s x) xs
tally_same_in p s [] f = omega arith
tally_same_in p s (x ∷ xs) f = here (p x) refl (s x) refl (tally_same_in p s xs (λ y i h. f y (inr i) h))
  where
    here : (b : Bool) → p x ≡ b → (c : Bool) → s x ≡ c → tally p xs ≤ tally (λ x. p x && s x) xs → cond b (suc (tally p xs)) (tally p xs) ≤ cond (b && c) (suc (tally (λ x. p x && s x) xs)) (tally (λ x. p x && s x) xs)
    here true e true g k = omega (arith, k)
    here true e false g k = absurd (true≢false (sym (f x (inl refl) e) ∙ g))
    here false e c g k = k

-- LATER ELEMENTS, among those that are equal in the columns

later_or : (e f : Element) → is_later e f ≡ true → (m : Bool) → nat_lt e.instant f.instant ≡ m → (e.instant < f.instant) ⊎ ((e.instant ≡ f.instant) × (e.arrival < f.arrival))
later_or e f h true k = inl (ltb-true _ _ k)
later_or e f h false k =
    let r : (e.instant == f.instant && nat_lt e.arrival f.arrival) ≡ true = sym (ap (λ b. b || (e.instant == f.instant && nat_lt e.arrival f.arrival)) k) ∙ h in
    let p = and_true (e.instant == f.instant) (nat_lt e.arrival f.arrival) r in
    inr (eqb-true _ _ p.0, ltb-true _ _ p.1)

later_is : (e f : Element) → is_later e f ≡ true → (e.instant < f.instant) ⊎ ((e.instant ≡ f.instant) × (e.arrival < f.arrival))
later_is e f h = later_or e f h (nat_lt e.instant f.instant) refl

or_right : (a b : Bool) → b ≡ true → (a || b) ≡ true
or_right true b h = refl
or_right false b h = h

or_left : (a b : Bool) → a ≡ true → (a || b) ≡ true
or_left true b h = refl
or_left false b h = cc

is_later_of : (e f : Element) → (e.instant < f.instant) ⊎ ((e.instant ≡ f.instant) × (e.arrival < f.arrival)) → is_later e f ≡ true
is_later_of e f h = elim h [
  | inl l ↦ or_left _ _ (lt-ltb _ _ l)
  | inr r ↦ or_right (nat_lt e.instant f.instant) _ (and_both _ _ (eq-eqb _ _ r.0) (lt-ltb _ _ r.1))
]

later_through : (e f g : Element) → is_later e f ≡ true → is_later f g ≡ true → is_later e g ≡ true
later_through e f g h k = is_later_of e g (elim (later_is e f h) [
  | inl a ↦ elim (later_is f g k) [ inl b ↦ inl (omega (arith, a, b)) | inr b ↦ inl (omega (arith, a, b.0)) ]
  | inr a ↦ elim (later_is f g k) [ inl b ↦ inl (omega (arith, a.0, b)) | inr b ↦ inr (a.0 ∙ b.0, omega (arith, a.1, b.1)) ]
])

not_both : (e f : Element) → is_later e f ≡ true → is_later f e ≡ true → ⊥
not_both e f h k = elim (later_is e f h) [
  | inl a ↦ elim (later_is f e k) [ inl b ↦ omega (arith, a, b) | inr b ↦ omega (arith, a, b.0) ]
  | inr a ↦ elim (later_is f e k) [ inl b ↦ omega (arith, a.0, b) | inr b ↦ omega (arith, a.1, b.1) ]
]

not_itself : (e : Element) → is_later e e ≡ false
not_itself e = here (is_later e e) refl
  where
    here : (b : Bool) → is_later e e ≡ b → b ≡ false
    here true k = absurd (not_both e e k k)
    here false k = refl

same_through : (columns : List ℕ) (r s u : Row) → same_in columns r s ≡ true → same_in columns s u ≡ true → same_in columns r u ≡ true
same_through [] r s u h k = refl
same_through (c ∷ columns) r s u h k =
    let a = and_true (is_eq (value_cmp (value_at r c) (value_at s c))) (same_in columns r s) h in
    let b = and_true (is_eq (value_cmp (value_at s c) (value_at u c))) (same_in columns s u) k in
    let e : value_at r c ≡ value_at s c = value_order.exact (value_at r c) (value_at s c) ((Equal-is (value_cmp (value_at r c) (value_at s c))).0 a.0) in
    and_both (is_eq (value_cmp (value_at r c) (value_at u c))) (same_in columns r u) (ap (λ v. is_eq (value_cmp v (value_at u c))) e ∙ b.0) (same_through columns r s u a.1 b.1)

module _ (columns : List ℕ) (t : ℕ) where
  -- what came later than what came later
  counts_through : (e f g : Element) → counts columns t e f ≡ true → counts columns t f g ≡ true → counts columns t e g ≡ true
  counts_through e f g h k =
      let a = and_true (nat_le f.instant t) (is_later e f && same_in columns e.row f.row) h in
      let a2 = and_true (is_later e f) (same_in columns e.row f.row) a.1 in
      let b = and_true (nat_le g.instant t) (is_later f g && same_in columns f.row g.row) k in
      let b2 = and_true (is_later f g) (same_in columns f.row g.row) b.1 in
      and_both (nat_le g.instant t) _ b.0 (and_both (is_later e g) _ (later_through e f g a2.0 b2.0) (same_through columns e.row f.row g.row a2.1 b2.1))

  counts_itself : (e : Element) → counts columns t e e ≡ false
  counts_itself e = here (nat_le e.instant t) (is_later e e) (same_in columns e.row e.row) (not_itself e)
    where
      here : (a b c : Bool) → b ≡ false → (a && (b && c)) ≡ false
      here true true c h = absurd (true≢false h)
      here true false c h = refl
      here false b c h = refl

  abbrev pub few_later : ℕ → List Element → Element → Bool
  few_later n zs f = nat_lt (tally (counts columns t f) zs) n

  -- where n or more came later, n of those have fewer than n behind them
  pub n_are_shown : (n : ℕ) (zs : List Element) (fuel : ℕ) (e : Element) → tally (counts columns t e) zs ≤ fuel → n ≤ tally (counts columns t e) zs
      → n ≤ tally (λ f. counts columns t e f && few_later n zs f) zs
  n_are_shown n zs zero e l h = omega (arith, l, h)
  n_are_shown n zs (suc fuel) e l h = here (λ f. n_are_shown n zs fuel f) (find (counts columns t e) (few_later n zs) zs)
    where
      here : ((f : Element) → tally (counts columns t f) zs ≤ fuel → n ≤ tally (counts columns t f) zs → n ≤ tally (λ g. counts columns t f g && few_later n zs g) zs) → Finds (counts columns t e) (few_later n zs) zs → n ≤ tally (λ f. counts columns t e f && few_later n zs f) zs
      here again (all_do g) = omega (arith, h, tally_same_in (counts columns t e) (few_later n zs) zs g)
      here again (one_not f i p s) =
          let less : tally (counts columns t f) zs < tally (counts columns t e) zs = tally_lt (counts columns t f) (counts columns t e) (λ g k. counts_through e f g p k) f (counts_itself f) p zs i in
          let many : n ≤ tally (λ g. counts columns t f g && few_later n zs g) zs = again f (omega (arith, l, less)) (ltb-false (tally (counts columns t f) zs) n s) in
          omega (
            arith,
            many,
            tally_le (λ g. counts columns t f g && few_later n zs g) (λ g. counts columns t e g && few_later n zs g)
                (λ g k. let a = and_true (counts columns t f g) (few_later n zs g) k in and_both (counts columns t e g) _ (counts_through e f g p a.0) a.1) zs,
          )

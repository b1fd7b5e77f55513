-- Bags of rows: their counts, and signed rows that turn some parts of a bag into others.
use Rattle.std.proofs.Common.{◌≡◌, ℕ, zero, suc, ◌+◌, ◌<◌, ◌≤◌, Bool, true, false, cond, ◌||◌, List, [], ◌∷◌, ◌++◌, filter, take, refl, sym, ap, ap₂, ◌∙◌, subst, arith, append_assoc, true≢false}
use Rattle.std.specs.List.{flat_map, list_any}
use Rattle.values.specs.Row.{Row, row_cmp}
use Rattle.values.specs.Bag.{is_same, copies, distinct, without}
use Rattle.values.specs.Perm.{Perm, same, keep, flip, join}
use Rattle.values.proofs.Order.{row_order}
use Rattle.values.proofs.Bags.{same_is, same_itself}
use Rattle.values.proofs.Perms.{perm-same_bag, copies-distinct, capped}
use Rattle.op_queue.specs.Signed.{weigh, up, down, Same, Adds, Legal, Turns}
use Rattle.op_queue.proofs.SignedLemmas.{weigh-append, Same-refl, Same-trans, Turns-none, Turns-append, Turns-same}
use Rattle.group.specs.Laws.{count}

-- COUNTS
pub row_is : (x y : Row) → is_same row_cmp x y ≡ true → x ≡ y
row_is x y h = same_is row_cmp row_order x y h

pub row_itself : (x : Row) → is_same row_cmp x x ≡ true
row_itself x = same_itself row_cmp row_order x

count-copies : (k : Row) (xs : List Row) → copies row_cmp k xs ≡ count k xs
unfolding weigh
count-copies k [] = refl
count-copies k (x ∷ xs) = here (is_same row_cmp k x) (count-copies k xs)
  where
    here : (b : Bool) → copies row_cmp k xs ≡ count k xs → cond b (suc (copies row_cmp k xs)) (copies row_cmp k xs) ≡ cond b 1 0 + count k xs
    here true h = omega (arith, h)
    here false h = omega (arith, h)

perm-bag : (xs ys : List Row) → Perm xs ys → Same xs ys
unfolding weigh
perm-bag xs ys (same us) = Same-refl us
perm-bag xs ys (keep x us vs p) = record { weighs = λ w. ap (λ n. w x + n) ((perm-bag us vs p).weighs w) }
perm-bag xs ys (flip x y us) = record { weighs = λ w. omega arith }
perm-bag xs ys (join us vs ws p q) = Same-trans (perm-bag us vs p) (perm-bag vs ws q)

pub perm-of_counts : (xs ys : List Row) → ((k : Row) → count k xs ≡ count k ys) → Perm xs ys
perm-of_counts xs ys h = perm-same_bag row_cmp row_order xs ys (λ k. count-copies k xs ∙ h k ∙ sym (count-copies k ys))

pub Same-of_counts : (xs ys : List Row) → ((k : Row) → count k xs ≡ count k ys) → Same xs ys
Same-of_counts xs ys h = perm-bag xs ys (perm-of_counts xs ys h)

capped_le : (n : ℕ) → capped n ≤ 1
capped_le zero = omega arith
capped_le (suc n) = omega arith

pub distinct_once : (k : Row) (xs : List Row) → count k (distinct row_cmp xs) ≤ 1
distinct_once k xs = omega (arith, count-copies k (distinct row_cmp xs), copies-distinct row_cmp row_order k xs, capped_le (copies row_cmp k xs))

pub count-distinct : (k : Row) (xs : List Row) → count k (distinct row_cmp xs) ≡ capped (count k xs)
count-distinct k xs = sym (count-copies k (distinct row_cmp xs)) ∙ copies-distinct row_cmp row_order k xs ∙ ap capped (count-copies k xs)

-- whether a row is there
pub any_count : (k : Row) (xs : List Row) → list_any (is_same row_cmp k) xs ≡ false → count k xs ≡ 0
unfolding weigh
any_count k [] h = refl
any_count k (x ∷ xs) h = here (is_same row_cmp k x) h (any_count k xs)
  where
    here : (b : Bool) → (b || list_any (is_same row_cmp k) xs) ≡ false → (list_any (is_same row_cmp k) xs ≡ false → count k xs ≡ 0) → cond b 1 0 + count k xs ≡ 0
    here true h i = cc
    here false h i = omega (arith, i h)

pub count_any : (k : Row) (xs : List Row) → list_any (is_same row_cmp k) xs ≡ true → 0 < count k xs
unfolding weigh
count_any k [] h = cc
count_any k (x ∷ xs) h = here (is_same row_cmp k x) h (count_any k xs)
  where
    here : (b : Bool) → (b || list_any (is_same row_cmp k) xs) ≡ true → (list_any (is_same row_cmp k) xs ≡ true → 0 < count k xs) → 0 < cond b 1 0 + count k xs
    here true h i = omega arith
    here false h i = omega (arith, i h)

-- FILTERS
pub weigh-filter : (w : Row → ℕ) (p : Row → Bool) (xs : List Row) → weigh w (filter p xs) ≡ weigh (λ x. cond (p x) (w x) 0) xs
unfolding weigh
weigh-filter w p [] = refl
weigh-filter w p (x ∷ xs) = here (p x) (weigh-filter w p xs)
  where
    here : (b : Bool) → weigh w (filter p xs) ≡ weigh (λ y. cond (p y) (w y) 0) xs → weigh w (cond b (x ∷ filter p xs) (filter p xs)) ≡ cond b (w x) 0 + weigh (λ y. cond (p y) (w y) 0) xs
    here true h = ap (λ n. w x + n) h
    here false h = omega (arith, h)

count_cond : (k x : Row) (xs : List Row) (c : Bool) → count k (cond c (x ∷ xs) xs) ≡ cond c (cond (is_same row_cmp k x) 1 0) 0 + count k xs
unfolding weigh
count_cond k x xs true = refl
count_cond k x xs false = omega arith

pub count-filter : (p : Row → Bool) (k : Row) (xs : List Row) → count k (filter p xs) ≡ cond (p k) (count k xs) 0
unfolding weigh
count-filter p k [] = here (p k)
  where
    here : (b : Bool) → zero ≡ cond b zero zero
    here true = refl
    here false = refl
count-filter p k (x ∷ xs) = count_cond k x (filter p xs) (p x) ∙ (ap (λ n. cond (p x) (cond (is_same row_cmp k x) 1 0) 0 + n) (count-filter p k xs) ∙ here (is_same row_cmp k x) refl (p x) refl (p k) refl)
  where
    here : (b : Bool) → is_same row_cmp k x ≡ b → (c : Bool) → p x ≡ c → (d : Bool) → p k ≡ d → cond c (cond b 1 0) 0 + cond d (count k xs) 0 ≡ cond d (cond b 1 0 + count k xs) 0
    here true h true i true j = refl
    here true h true i false j = absurd (true≢false (sym i ∙ (ap p (sym (row_is k x h)) ∙ j)))
    here true h false i true j = absurd (true≢false (sym j ∙ (ap p (row_is k x h) ∙ i)))
    here true h false i false j = refl
    here false h true i true j = refl
    here false h true i false j = refl
    here false h false i true j = refl
    here false h false i false j = refl

-- PARTS END TO END
pub weigh-flat_map : (w : Row → ℕ) (f : Row → List Row) (xs : List Row) → weigh w (flat_map f xs) ≡ weigh (λ x. weigh w (f x)) xs
unfolding weigh
weigh-flat_map w f [] = refl
weigh-flat_map w f (x ∷ xs) = weigh-append w (f x) (flat_map f xs) ∙ ap (λ n. weigh w (f x) + n) (weigh-flat_map w f xs)

Same-flat_map : (f : Row → List Row) (xs ys : List Row) → Same xs ys → Same (flat_map f xs) (flat_map f ys)
Same-flat_map f xs ys h = record { weighs = λ w. weigh-flat_map w f xs ∙ h.weighs (λ x. weigh w (f x)) ∙ sym (weigh-flat_map w f ys) }

abbrev is_there : List Row → Bool
is_there [] = false
is_there (x ∷ xs) = true

not_there : (xs : List Row) → is_there xs ≡ false → xs ≡ []
not_there [] h = refl
not_there (x ∷ xs) h = cc

flat_map-there : (f : Row → List Row) (xs : List Row) → flat_map f (filter (λ x. is_there (f x)) xs) ≡ flat_map f xs
flat_map-there f [] = refl
flat_map-there f (x ∷ xs) = here (is_there (f x)) refl (flat_map-there f xs)
  where
    here : (b : Bool) → is_there (f x) ≡ b → flat_map f (filter (λ y. is_there (f y)) xs) ≡ flat_map f xs → flat_map f (cond b (x ∷ filter (λ y. is_there (f y)) xs) (filter (λ y. is_there (f y)) xs)) ≡ f x ++ flat_map f xs
    here true h i = ap (λ l. f x ++ l) i
    here false h i = i ∙ ap (λ l. l ++ flat_map f xs) (sym (not_there (f x) h))

-- parts by key may be read off any list of keys that has each key with a part once
pub reread : (f : Row → List Row) (ks js : List Row) → ((k : Row) → count k ks ≤ 1) → ((k : Row) → count k js ≤ 1) → ((k : Row) → count k ks ≡ 0 → f k ≡ []) → ((k : Row) → count k js ≡ 0 → f k ≡ []) → Same (flat_map f ks) (flat_map f js)
reread f ks js a b c d =
    subst (λ x. Same x (flat_map f js)) (flat_map-there f ks)
    (subst (λ x. Same (flat_map f (filter (λ k. is_there (f k)) ks)) x) (flat_map-there f js)
    (Same-flat_map f (filter (λ k. is_there (f k)) ks) (filter (λ k. is_there (f k)) js)
    (Same-of_counts _ _ (λ k. count-filter (λ j. is_there (f j)) k ks ∙ here k (is_there (f k)) refl (count k ks) refl (count k js) refl ∙ sym (count-filter (λ j. is_there (f j)) k js)))))
  where
    gone : (k : Row) → f k ≡ [] → is_there (f k) ≡ true → ⊥
    gone k e t = true≢false (sym t ∙ ap is_there e)

    here : (k : Row) (t : Bool) → is_there (f k) ≡ t → (m : ℕ) → count k ks ≡ m → (n : ℕ) → count k js ≡ n → cond t (count k ks) 0 ≡ cond t (count k js) 0
    here k false t m x n y = refl
    here k true t zero x n y = absurd (gone k (c k x) t)
    here k true t (suc m) x zero y = absurd (gone k (d k y) t)
    here k true t (suc m) x (suc n) y = omega (arith, a k, b k, x, y)

pub flat_map-append : {X : Type 0} (f : Row → List X) (xs ys : List Row) → flat_map f (xs ++ ys) ≡ flat_map f xs ++ flat_map f ys
flat_map-append f [] ys = refl
flat_map-append f (x ∷ xs) ys = ap (λ l. f x ++ l) (flat_map-append f xs ys) ∙ sym (append_assoc (f x) (flat_map f xs) (flat_map f ys))

-- with the same part at each key that passes a test
pub flat_map-chosen : (p : Row → Bool) (f h : Row → List Row) → ((k : Row) → p k ≡ true → f k ≡ h k) → (ks : List Row) → flat_map f (filter p ks) ≡ flat_map h (filter p ks)
flat_map-chosen p f h e [] = refl
flat_map-chosen p f h e (k ∷ ks) = here (p k) refl (flat_map-chosen p f h e ks)
  where
    here : (b : Bool) → p k ≡ b → flat_map f (filter p ks) ≡ flat_map h (filter p ks) → flat_map f (cond b (k ∷ filter p ks) (filter p ks)) ≡ flat_map h (cond b (k ∷ filter p ks) (filter p ks))
    here true i j = ap₂ (λ a b. a ++ b) (e k i) j
    here false i j = j

-- SIGNED ROWS
pub Same-append : {a b c d : List Row} → Same a b → Same c d → Same (a ++ c) (b ++ d)
Same-append {a = a} {b = b} {c = c} {d = d} h k = record { weighs = λ w. omega (arith, h.weighs w, k.weighs w, weigh-append w a c, weigh-append w b d) }

pub Same-swap : (a b : List Row) → Same (a ++ b) (b ++ a)
Same-swap a b = record { weighs = λ w. omega (arith, weigh-append w a b, weigh-append w b a) }

-- beside other rows
pub Turns-frame : {b c : List Row} {xs : List (Bool × Row)} (z : List Row) → Turns b xs c → Turns (b ++ z) xs (c ++ z)
Turns-frame {b = b} {c = c} z m = record {
  adds = record { weighs = λ w. omega (arith, m.adds.weighs w, weigh-append w b z, weigh-append w c z) };
  legal = record { fits = λ w i. omega (arith, m.legal.fits w i, weigh-append w b z) };
}

-- one row leaves
pub turns_leave : (x : Row) → Turns (x ∷ []) ((false, x) ∷ []) []
unfolding weigh
turns_leave x = record { adds = record { weighs = λ w. omega arith }; legal = record { fits = λ w i. here w i } }
  where
    here : (w : Row → ℕ) (i : ℕ) → down w (take i ((false, x) ∷ [])) ≤ up w (take i ((false, x) ∷ [])) + weigh w (x ∷ [])
    here w zero = omega arith
    here w (suc zero) = omega arith
    here w (suc (suc i)) = omega arith

-- one row enters
pub turns_enter : (x : Row) → Turns [] ((true, x) ∷ []) (x ∷ [])
unfolding weigh
turns_enter x = record { adds = record { weighs = λ w. omega arith }; legal = record { fits = λ w i. here w i } }
  where
    here : (w : Row → ℕ) (i : ℕ) → down w (take i ((true, x) ∷ [])) ≤ up w (take i ((true, x) ∷ [])) + weigh w []
    here w zero = omega arith
    here w (suc zero) = omega arith
    here w (suc (suc i)) = omega arith

-- the parts of some keys are turned one after the other
pub turns_parts : (f h : Row → List Row) (out : Row → List (Bool × Row)) → (ks z : List Row) → ((k : Row) → 0 < count k ks → Turns (f k) (out k) (h k)) → Turns (flat_map f ks ++ z) (flat_map out ks) (flat_map h ks ++ z)
unfolding weigh
turns_parts f h out [] z t = Turns-none (Same-refl z)
turns_parts f h out (k ∷ ks) z t =
    Turns-append {c = h k ++ (flat_map f ks ++ z)}
    (subst (λ l. Turns l (out k) (h k ++ (flat_map f ks ++ z))) (sym (append_assoc (f k) (flat_map f ks) z)) (Turns-frame (flat_map f ks ++ z) (t k (omega (arith, ap {B = ℕ} (λ (b : Bool). cond b 1 0) (row_itself k))))))
    (subst (λ l. Turns (h k ++ (flat_map f ks ++ z)) (flat_map out ks) l) (sym (append_assoc (h k) (flat_map h ks) z)) (Turns-same (Same-swap _ (h k)) (Same-swap _ (h k)) (Turns-frame (h k) (turns_parts f h out ks z (λ j lt. t j (omega (arith, lt)))))))

-- THE BAG AFTER A LEGAL ROW
weigh-without : (w : Row → ℕ) (x : Row) (b : List Row) → 0 < count x b → weigh w b ≡ w x + weigh w (without row_cmp x b)
unfolding weigh
weigh-without w x [] h = absurd (omega (arith, h))
weigh-without w x (y ∷ b) h = here (is_same row_cmp x y) refl h (weigh-without w x b)
  where
    here : (t : Bool) → is_same row_cmp x y ≡ t → 0 < cond t 1 0 + count x b → (0 < count x b → weigh w b ≡ w x + weigh w (without row_cmp x b)) → w y + weigh w b ≡ w x + weigh w (cond t b (y ∷ without row_cmp x b))
    here true e h i = ap (λ z. w z + weigh w b) (sym (row_is x y e))
    here false e h i = omega (arith, i (omega (arith, h)))

pub after_row : (b : List Row) (s : Bool × Row) → Legal b (s ∷ []) → (c : List Row) × Adds b (s ∷ []) c
unfolding weigh
after_row b (true, x) h = (x ∷ b, record { weighs = λ w. omega arith })
after_row b (false, x) h =
    let there : 0 < count x b = omega (arith, h.fits (λ y. cond (is_same row_cmp x y) 1 0) 1, ap {B = ℕ} (λ c. cond c 1 0) (row_itself x)) in
    (without row_cmp x b, record { weighs = λ w. omega (arith, weigh-without w x b there) })

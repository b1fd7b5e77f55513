-- Rows that nulls fill up to one length compare as the rows do, but for how many values they have.
use Rattle.std.proofs.Common.{◌≡◌, ℕ, zero, suc, ◌+◌, ◌-◌, ◌<◌, ◌≤◌, true, false, Option, Some, None, [], ◌∷◌, ◌++◌, length, replicate, take, drop, refl, ap, sym, ◌∙◌, arith, ℤ, length-append, get_or, set, append-nil}
use Rattle.std.specs.declared.cmp.Ordering.{Ordering}
use Rattle.std.specs.declared.cmp.Ordering.TheVariants.{Less, Equal, Greater}
use Rattle.std.specs.Ordering.{is_gt, is_lt, is_ne, ordering_then, nat_cmp, MatchOrdering}
use Rattle.std.specs.Cmp.{nat_cmp_is, ranked}
use Rattle.std.proofs.lemmas.List.{length-replicate, length-take-le, drop_more}
use Rattle.std.proofs.Math.Seq.{take-length, drop-length, take-append_seam}
use Rattle.values.specs.Row.{Row, row_cmp, value_cmp}

-- r with n nulls behind it
abbrev pub filled : Row → ℕ → Row
filled r n = r ++ replicate n None

-- rows of one length, and then how many values they stand for
abbrev pub key_cmp : Row → Row → ℕ → ℕ → Ordering
key_cmp r s n m = ordering_then (row_cmp r s) (nat_cmp n m)

then-less : (o : Ordering) → is_gt o ≡ false → ordering_then o Less ≡ Less
then-less Less h = refl
then-less Equal h = refl
then-less Greater h = cc

then-greater : (o : Ordering) → is_lt o ≡ false → ordering_then o Greater ≡ Greater
then-greater Less h = cc
then-greater Equal h = refl
then-greater Greater h = refl

then-assoc : (o p q : Ordering) → ordering_then (ordering_then o p) q ≡ ordering_then o (ordering_then p q)
then-assoc Less p q = refl
then-assoc Equal p q = refl
then-assoc Greater p q = refl

nulls-same : (n : ℕ) → row_cmp (replicate n None) (replicate n None) ≡ Equal
nulls-same zero = refl
nulls-same (suc n) = nulls-same n

-- nulls are below each row of their length
nulls-below : (n : ℕ) (s : Row) → length s ≡ n → is_gt (row_cmp (replicate n None) s) ≡ false
nulls-below zero [] h = refl
nulls-below zero (v ∷ s) h = absurd (omega (arith, h))
nulls-below (suc n) [] h = absurd (omega (arith, h))
nulls-below (suc n) (None ∷ s) h = nulls-below n s (omega (arith, h))
nulls-below (suc n) (Some z ∷ s) h = refl

above-nulls : (n : ℕ) (s : Row) → length s ≡ n → is_lt (row_cmp s (replicate n None)) ≡ false
above-nulls zero [] h = refl
above-nulls zero (v ∷ s) h = absurd (omega (arith, h))
above-nulls (suc n) [] h = absurd (omega (arith, h))
above-nulls (suc n) (None ∷ s) h = above-nulls n s (omega (arith, h))
above-nulls (suc n) (Some z ∷ s) h = refl

next_cmp : (a b : ℕ) → nat_cmp (suc a) (suc b) ≡ nat_cmp a b
next_cmp a b = sym (nat_cmp_is (suc a) (suc b) (nat_cmp a b) (here (nat_cmp a b) (ranked a b (nat_cmp a b) refl)))
  where
    here : (o : Ordering) → MatchOrdering o (a < b) (a ≡ b) (b < a) → MatchOrdering o (suc a < suc b) (suc a ≡ suc b) (suc b < suc a)
    here Less h = omega (arith, h)
    here Equal h = ap suc h
    here Greater h = omega (arith, h)

length-filled : (s : Row) (m : ℕ) → length (filled s m) ≡ length s + m
length-filled s m = let null : Option ℤ = None in length-append s (replicate m null) ∙ ap (λ n. length s + n) (length-replicate m null)

pub filled-cmp : (r s : Row) (n m : ℕ) → length r + n ≡ length s + m → key_cmp (filled r n) (filled s m) (length r) (length s) ≡ row_cmp r s
filled-cmp [] [] n m h = let e : n ≡ m = omega (arith, h) in ap (λ k. ordering_then (row_cmp (replicate n None) (replicate k None)) (nat_cmp 0 0)) (sym e) ∙ ap (λ o. ordering_then o (nat_cmp 0 0)) (nulls-same n)
filled-cmp [] (w ∷ ws) n m h =
    ap (λ o. ordering_then (row_cmp (replicate n None) (filled (w ∷ ws) m)) o) (sym (nat_cmp_is 0 (suc (length ws)) Less (omega arith)))
    ∙ then-less (row_cmp (replicate n None) (filled (w ∷ ws) m)) (nulls-below n (filled (w ∷ ws) m) (omega (arith, length-filled (w ∷ ws) m, h)))
filled-cmp (v ∷ vs) [] n m h =
    ap (λ o. ordering_then (row_cmp (filled (v ∷ vs) n) (replicate m None)) o) (sym (nat_cmp_is (suc (length vs)) 0 Greater (omega arith)))
    ∙ then-greater (row_cmp (filled (v ∷ vs) n) (replicate m None)) (above-nulls m (filled (v ∷ vs) n) (omega (arith, length-filled (v ∷ vs) n, h)))
filled-cmp (v ∷ vs) (w ∷ ws) n m h =
    then-assoc (value_cmp v w) (row_cmp (filled vs n) (filled ws m)) (nat_cmp (suc (length vs)) (suc (length ws)))
    ∙ ap (λ o. ordering_then (value_cmp v w) (ordering_then (row_cmp (filled vs n) (filled ws m)) o)) (next_cmp (length vs) (length ws))
    ∙ ap (λ o. ordering_then (value_cmp v w) o) (filled-cmp vs ws n m (omega (arith, h)))

pub take-filled : (r : Row) (n : ℕ) → take (length r) (filled r n) ≡ r
take-filled r n = take-append_seam r (replicate n None)

get_or-filled : (r : Row) (n i : ℕ) → get_or (filled r n) i None ≡ get_or r i None
get_or-filled [] zero i = refl
get_or-filled [] (suc n) zero = refl
get_or-filled [] (suc n) (suc i) = get_or-filled [] n i
get_or-filled (v ∷ r) n zero = refl
get_or-filled (v ∷ r) n (suc i) = get_or-filled r n i

set-next : (f g : Row) (i : ℕ) (v : Option ℤ) → length f ≡ length g → i < length f → get_or f i None ≡ v → set (take i f ++ drop i g) i v ≡ take (suc i) f ++ drop (suc i) g
set-next [] g i v l h e = absurd (omega (arith, h))
set-next (x ∷ f) [] i v l h e = absurd (omega (arith, l))
set-next (x ∷ f) (y ∷ g) zero v l h e = ap (λ w. w ∷ g) (sym e)
set-next (x ∷ f) (y ∷ g) (suc i) v l h e = ap (λ (t : Row). x ∷ t) (set-next f g i v (omega (arith, l)) (omega (arith, h)) e)

-- a row's value goes to its place
pub filled-next : (r g xs : Row) (i k : ℕ) → length r ≤ k → length g ≡ k → i < k → xs ≡ take i (filled r (k - length r)) ++ drop i g
    → set xs i (get_or r i None) ≡ take (i + 1) (filled r (k - length r)) ++ drop (i + 1) g
filled-next r g xs i k l h j e =
    let n = k - length r in
    let up : suc i ≡ i + 1 = omega arith in
    ap (λ (ys : Row). set ys i (get_or r i None)) e
    ∙ set-next (filled r n) g i (get_or r i None) (omega (arith, length-filled r n, l, h)) (omega (arith, length-filled r n, l, j)) (get_or-filled r n i)
    ∙ ap (λ (m : ℕ). take m (filled r n) ++ drop m g) up

-- at the end all places have theirs
pub filled-end : (r g xs : Row) (k : ℕ) → length r ≤ k → length g ≡ k → xs ≡ take k (filled r (k - length r)) ++ drop k g → xs ≡ filled r (k - length r)
filled-end r g xs k l h e =
    let n = k - length r in
    let whole : length (filled r n) ≡ k = omega (arith, length-filled r n, l) in
    e
    ∙ ap (λ (m : ℕ). take m (filled r n) ++ drop k g) (sym whole)
    ∙ ap (λ (ys : Row). ys ++ drop k g) (take-length (filled r n))
    ∙ ap (λ (m : ℕ). filled r n ++ drop m g) (sym h)
    ∙ ap (λ (ys : Row). filled r n ++ ys) (drop-length g)
    ∙ append-nil (filled r n)

pub inside-cmp : (xs ys : Row) (n m k : ℕ) → length xs ≡ k → length ys ≡ k → n ≤ k → m ≤ k → xs ≡ filled (take n xs) (k - n) → ys ≡ filled (take m ys) (k - m)
    → key_cmp xs ys n m ≡ row_cmp (take n xs) (take m ys)
inside-cmp xs ys n m k lx ly hn hm ex ey =
    let r = take n xs in
    let s = take m ys in
    let lr : length r ≡ n = length-take-le n xs (omega (arith, lx, hn)) in
    let ls : length s ≡ m = length-take-le m ys (omega (arith, ly, hm)) in
    ap (λ (zs : Row). key_cmp zs ys n m) ex
    ∙ ap (λ (zs : Row). key_cmp (filled r (k - n)) zs n m) ey
    ∙ ap (λ (i : ℕ). key_cmp (filled r (k - n)) (filled s (k - m)) i m) (sym lr)
    ∙ ap (λ (i : ℕ). key_cmp (filled r (k - n)) (filled s (k - m)) (length r) i) (sym ls)
    ∙ filled-cmp r s (k - n) (k - m) (omega (arith, lr, ls, hn, hm))

step : (xs ys : Row) (i n m : ℕ) (v w : Option ℤ) → i < length xs → i < length ys → key_cmp (drop i xs) (drop i ys) n m ≡ ordering_then (value_cmp (get_or xs i v) (get_or ys i w)) (key_cmp (drop (i + 1) xs) (drop (i + 1) ys) n m)
step xs ys i n m v w hx hy =
    ap (λ (zs : Row). key_cmp zs (drop i ys) n m) (drop_more xs i v hx)
    ∙ ap (λ (zs : Row). key_cmp (get_or xs i v ∷ drop (i + 1) xs) zs n m) (drop_more ys i w hy)
    ∙ then-assoc (value_cmp (get_or xs i v) (get_or ys i w)) (row_cmp (drop (i + 1) xs) (drop (i + 1) ys)) (nat_cmp n m)

then-same : (o p q : Ordering) → is_ne o ≡ false → ordering_then o p ≡ q → p ≡ q
then-same Less p q h e = cc
then-same Equal p q h e = e
then-same Greater p q h e = cc

then-differs : (o p q : Ordering) → is_ne o ≡ true → ordering_then o p ≡ q → o ≡ q
then-differs Less p q h e = e
then-differs Equal p q h e = cc
then-differs Greater p q h e = e

-- where the values at a place are the same, the rest decides, and else they do
pub cmp-next : (xs ys : Row) (i n m k : ℕ) (v w : Option ℤ) (q o : Ordering) → length xs ≡ k → length ys ≡ k → i < k → q ≡ value_cmp (get_or xs i v) (get_or ys i w) → is_ne q ≡ false → key_cmp (drop i xs) (drop i ys) n m ≡ o
    → key_cmp (drop (i + 1) xs) (drop (i + 1) ys) n m ≡ o
cmp-next xs ys i n m k v w q o lx ly lt c h e =
    then-same (value_cmp (get_or xs i v) (get_or ys i w)) (key_cmp (drop (i + 1) xs) (drop (i + 1) ys) n m) o (ap is_ne (sym c) ∙ h) (sym (step xs ys i n m v w (omega (arith, lx, lt)) (omega (arith, ly, lt))) ∙ e)

pub cmp-differs : (xs ys : Row) (i n m k : ℕ) (v w : Option ℤ) (q o : Ordering) → length xs ≡ k → length ys ≡ k → i < k → q ≡ value_cmp (get_or xs i v) (get_or ys i w) → is_ne q ≡ true → key_cmp (drop i xs) (drop i ys) n m ≡ o → q ≡ o
cmp-differs xs ys i n m k v w q o lx ly lt c h e =
    c ∙ then-differs (value_cmp (get_or xs i v) (get_or ys i w)) (key_cmp (drop (i + 1) xs) (drop (i + 1) ys) n m) o (ap is_ne (sym c) ∙ h) (sym (step xs ys i n m v w (omega (arith, lx, lt)) (omega (arith, ly, lt))) ∙ e)

pub cmp-end : (xs ys : Row) (i k n m : ℕ) (o : Ordering) → length xs ≡ k → length ys ≡ k → i ≡ k → key_cmp (drop i xs) (drop i ys) n m ≡ o → nat_cmp n m ≡ o
cmp-end xs ys i k n m o lx ly d e =
    let ax : length xs ≡ i = omega (arith, lx, d) in
    let ay : length ys ≡ i = omega (arith, ly, d) in
    ap (λ (zs : Row). key_cmp zs [] n m) (sym (drop-length xs))
    ∙ ap (λ (zs : Row). key_cmp (drop (length xs) xs) zs n m) (sym (drop-length ys))
    ∙ ap (λ (j : ℕ). key_cmp (drop j xs) (drop (length ys) ys) n m) ax
    ∙ ap (λ (j : ℕ). key_cmp (drop i xs) (drop j ys) n m) ay
    ∙ e

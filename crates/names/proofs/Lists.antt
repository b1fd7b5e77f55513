-- Lists that are mapped, appended and searched.
use Rattle.std.proofs.Common.{◌≡◌, ℕ, suc, ◌+◌, ◌<◌, ◌≤◌, nat_lt, Bool, true, false, not, ◌&&◌, ◌||◌, List, [], ◌∷◌, ◌++◌, map, length, drop, get_or, position, refl, sym, ap, ◌∙◌, arith}
use Rattle.std.specs.List.{list_any, position_or_len}
use Rattle.std.specs.List.{range_with_len}
use Rattle.std.proofs.lemmas.List.{length-map, map-append}
use Rattle.std.proofs.lemmas.List.FromFn.{map-range_with_len_more}
use Rattle.std.proofs.Math.Seq.{drop-cons}
use Rattle.std.proofs.lemmas.Bool.Decides.{nat_tests}
use Rattle.values.specs.declared.TheConstants.{MAX_COLUMNS}

place-map : {X Y : Type 0} (p : Y → Bool) (f : X → Y) (xs : List X) → position_or_len p (map f xs) ≡ position_or_len (λ x. p (f x)) xs
place-map p f [] = refl
place-map p f (x ∷ xs) = rw (place-map p f xs) refl

pub position_map : {X Y : Type 0} (p : Y → Bool) (f : X → Y) (xs : List X) → position p (map f xs) ≡ position (λ x. p (f x)) xs
position_map p f xs = rw (place-map p f xs, length-map xs f) refl

pub any_map : {X Y : Type 0} (p : Y → Bool) (f : X → Y) (xs : List X) → list_any p (map f xs) ≡ list_any (λ x. p (f x)) xs
any_map p f [] = refl
any_map p f (x ∷ xs) = ap (λ b. p (f x) || b) (any_map p f xs)

pub or_assoc : (a b c : Bool) → ((a || b) || c) ≡ (a || (b || c))
or_assoc true b c = refl
or_assoc false b c = refl

pub any_append : {X : Type 0} (p : X → Bool) (xs ys : List X) → list_any p (xs ++ ys) ≡ (list_any p xs || list_any p ys)
any_append p [] ys = refl
any_append p (x ∷ xs) ys = ap (λ b. p x || b) (any_append p xs ys) ∙ sym (or_assoc (p x) (list_any p xs) (list_any p ys))

not-or : (a b : Bool) → (not a && not b) ≡ not (a || b)
not-or true b = refl
not-or false b = refl

-- none of the tests of two lists is met
pub none_of : {X Y Z : Type 0} (f : X → Z → Bool) (g : Y → Z → Bool) (xs : List X) (ys : List Y) (z : Z)
    → (not (list_any (λ x. f x z) xs) && not (list_any (λ y. g y z) ys)) ≡ not (list_any (λ t. t z) (map f xs ++ map g ys))
none_of f g xs ys z =
    not-or (list_any (λ x. f x z) xs) (list_any (λ y. g y z) ys)
    ∙ ap not (sym (any_append (λ t. t z) (map f xs) (map g ys) ∙ rw (any_map (λ t. t z) f xs, any_map (λ t. t z) g ys) refl))

-- what is left of a list begins with its item
pub rest_cons : {X : Type 0} (xs : List X) (i : ℕ) (x : X) → i < length xs → x ≡ get_or xs i x → drop i xs ≡ x ∷ drop (i + 1) xs
rest_cons xs i x lt is =
    let e : suc i ≡ i + 1 = omega arith in
    drop-cons xs i x lt ∙ ap (λ k. get_or xs i x ∷ drop k xs) e ∙ ap (λ y. y ∷ drop (i + 1) xs) (sym is)

-- what stands for the numbers of a range, and for one more
pub range_more : {X Y : Type 0} (view : X → Y) (f : ℕ → Y) (a n : ℕ) (old new : List X) (x : X) (j : ℕ) → a + n ≡ j → new ≡ old ++ x ∷ [] → view x ≡ f j
    → map view old ≡ map f (range_with_len a n) → map view new ≡ map f (range_with_len a (n + 1))
range_more view f a n old new x j e pushed is h =
    ap (map view) pushed ∙ map-append view old (x ∷ []) ∙ ap (λ ys. ys ++ view x ∷ []) h ∙ ap (λ y. map f (range_with_len a n) ++ y ∷ []) is
    ∙ sym (map-range_with_len_more f a n j e)

over : (n : ℕ) → n ≤ MAX_COLUMNS → nat_lt MAX_COLUMNS n ≡ false
over n h = grind (arith, nat_tests)

-- neither of two numbers is over the most
pub none_over : (m n : ℕ) (w : Bool) → m ≤ MAX_COLUMNS → n ≤ MAX_COLUMNS → w ≡ (nat_lt MAX_COLUMNS m || (nat_lt MAX_COLUMNS n || w))
none_over m n w h k = rw (over m h) (rw (over n k) refl)

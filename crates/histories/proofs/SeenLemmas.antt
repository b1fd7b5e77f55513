-- Lists that are compared item by item, where what is seen of an item decides.
use Rattle.std.proofs.Common.{◌≡◌, Bool, ◌&&◌, List, [], ◌∷◌, map, refl, ap, rules, ◌==◌, Option, ℤ, String, string_bytes}
use Rattle.std.specs.Bool.{Decides}
use Rattle.std.specs.Cmp.Lexicographic.{pointwise}
use Rattle.std.specs.Option.{option_eq}
use Rattle.std.specs.Ordering.{int_eq}
use Rattle.std.specs.declared.alloc.Global.{Global}
use Rattle.std.proofs.lemmas.Bool.Decides.{Decides-and, Decides-at, Decides-like, Decides-int_eq}
use Rattle.std.proofs.lemmas.Slice.Eq.{slice_eq-Decides, bytes_eq-Decides}
use Rattle.arrayvec.specs.ArrayVec.{ArrayVec}

both_head : {X : Type 0} (x y : X) (xs ys : List X) → (x ≡ y) × (xs ≡ ys) → x ∷ xs ≡ y ∷ ys
both_head x y xs ys h = rw (h.0, h.1) refl

head_both : {X : Type 0} (x y : X) (xs ys : List X) → x ∷ xs ≡ y ∷ ys → (x ≡ y) × (xs ≡ ys)
head_both x y xs ys h = (cc, cc)

pub seen_decides : {A B : Type 0} (E : A → A → Bool) (seen : A → B) → ((a b : A) → Decides (E a b) (seen a ≡ seen b))
    → (xs ys : List A) → Decides (pointwise E xs ys) (map seen xs ≡ map seen ys)
seen_decides E seen each [] [] = (λ t. refl, λ e. refl)
seen_decides E seen each [] (y ∷ ys) = (λ t. cc, λ e. cc)
seen_decides E seen each (x ∷ xs) [] = (λ t. cc, λ e. cc)
seen_decides E seen each (x ∷ xs) (y ∷ ys) =
    Decides-like (E x y && pointwise E xs ys) (both_head _ _ _ _) (head_both _ _ _ _) (Decides-and _ _ (each x y) (seen_decides E seen each xs ys))

abbrev pair : {X Y : Type 0} → X → Y → X × Y
pair x y = (x, y)

both_parts : {X Y : Type 0} (x x2 : X) (y y2 : Y) → (x ≡ x2) × (y ≡ y2) → pair x y ≡ pair x2 y2
both_parts x x2 y y2 h = rw (h.0, h.1) refl

parts_both : {X Y : Type 0} (x x2 : X) (y y2 : Y) → pair x y ≡ pair x2 y2 → (x ≡ x2) × (y ≡ y2)
parts_both x x2 y y2 h = (ap (λ p. p.0) h, ap (λ p. p.1) h)

pub measures_decide : (a b : ℤ × ℤ) → Decides (int_eq a.0 b.0 && int_eq a.1 b.1) (a ≡ b)
measures_decide a b = Decides-like _ (both_parts _ _ _ _) (parts_both _ _ _ _) (Decides-and _ _ (Decides-int_eq a.0 b.0) (Decides-int_eq a.1 b.1))

values_decide : (a b : Option ℤ) → Decides (option_eq int_eq a b) (a ≡ b)
values_decide a b = search rules

rows_decide : (a b : List (Option ℤ)) → Decides (pointwise (option_eq int_eq) a b) (a ≡ b)
rows_decide a b = slice_eq-Decides values_decide a b _ refl

-- an answer as it is handed out
abbrev answer : ℤ × ArrayVec (Option ℤ) → ℤ × List (Option ℤ)
answer a = (a.0, a.1.items)

pub answers_decide : (a b : ℤ × ArrayVec (Option ℤ)) → Decides (int_eq a.0 b.0 && pointwise (option_eq int_eq) a.1.items b.1.items) (answer a ≡ answer b)
answers_decide a b = Decides-like _ (both_parts _ _ _ _) (parts_both _ _ _ _) (Decides-and _ _ (Decides-int_eq a.0 b.0) (rows_decide a.1.items b.1.items))

pub texts_decide : (a b : String Global) → Decides (pointwise (λ x y. x == y) (string_bytes a) (string_bytes b)) (string_bytes a ≡ string_bytes b)
texts_decide a b = bytes_eq-Decides (string_bytes a) (string_bytes b)

-- what `==` says of two lists
pub seen_same : {A B : Type 0} (E : A → A → Bool) (seen : A → B) → ((a b : A) → Decides (E a b) (seen a ≡ seen b))
    → (xs ys : List A) (r : Bool) → r ≡ pointwise E xs ys → Decides r (map seen xs ≡ map seen ys)
seen_same E seen each xs ys r is = Decides-at r _ is (seen_decides E seen each xs ys)

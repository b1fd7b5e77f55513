-- What `==` says of values and rows, and of lists and options of what has it.
use Rattle.std.proofs.Common.{◌≡◌, Bool, ℤ, Option, Some, None, unwrap_or, List, [], ◌∷◌, map, drop, get_or, refl, ap, ap₂}
use Rattle.std.specs.Bool.{Decides}
use Rattle.std.specs.Ordering.{int_eq}
use Rattle.std.specs.Option.{option_eq, option_map}
use Rattle.std.specs.Cmp.Lexicographic.{pointwise}
use Rattle.std.proofs.lemmas.Bool.Decides.{Decides-int_eq, Decides-and, Decides-like}
use Rattle.std.proofs.lemmas.Slice.Eq.{slice_eq-Decides}
use Rattle.arrayvec.specs.ArrayVec.{ArrayVec}
use Rattle.values.specs.Row.{Row}

-- where `==` decides whether two are the same as f sees them, it does so of lists and options too
module _ {A B : Type 0} {E : A → A → Bool} (f : A → B) (decides : (a b : A) → Decides (E a b) (f a ≡ f b)) where
  pub list_decides : (xs ys : List A) → Decides (pointwise E xs ys) (map f xs ≡ map f ys)
  list_decides [] [] = (λ h. refl, λ h. refl)
  list_decides [] (y ∷ ys) = (λ h. cc, λ h. cc)
  list_decides (x ∷ xs) [] = (λ h. cc, λ h. cc)
  list_decides (x ∷ xs) (y ∷ ys) =
      Decides-like _ (λ e. ap₂ (λ v vs. v ∷ vs) e.0 e.1) (λ e. (ap (λ (vs : List B). get_or vs 0 (f x)) e, ap (λ (vs : List B). drop 1 vs) e))
      (Decides-and _ _ (decides x y) (list_decides xs ys))

  pub option_decides : (x y : Option A) → Decides (option_eq E x y) (option_map f x ≡ option_map f y)
  option_decides None None = (λ h. refl, λ h. refl)
  option_decides None (Some y) = (λ h. cc, λ h. cc)
  option_decides (Some x) None = (λ h. cc, λ h. cc)
  option_decides (Some x) (Some y) = Decides-like _ (ap Some) (ap (λ (o : Option B). unwrap_or o (f x))) (decides x y)

module _ {A : Type 0} {E : A → A → Bool} (decides : (a b : A) → Decides (E a b) (a ≡ b)) where
  pub some_decides : (x y : Option A) → Decides (option_eq E x y) (x ≡ y)
  some_decides None None = (λ h. refl, λ h. refl)
  some_decides None (Some y) = (λ h. cc, λ h. cc)
  some_decides (Some x) None = (λ h. cc, λ h. cc)
  some_decides (Some x) (Some y) = Decides-like _ (ap Some) (ap (λ (o : Option A). unwrap_or o x)) (decides x y)

pub value_decides : (v w : Option ℤ) → Decides (option_eq int_eq v w) (v ≡ w)
value_decides = some_decides Decides-int_eq

-- rows, by their values
pub items_decides : (r q : ArrayVec (Option ℤ)) → Decides (pointwise (option_eq int_eq) r.items q.items) (r.items ≡ q.items)
items_decides r q = slice_eq-Decides value_decides r.items q.items _ refl

pub row_decides : (r q : ArrayVec (Option ℤ)) → Decides (pointwise (option_eq int_eq) r.items q.items) (r ≡ q)
row_decides r q = Decides-like _ (ap (λ (xs : Row). record { items = xs })) (ap (λ (s : ArrayVec (Option ℤ)). s.items)) (items_decides r q)

pub rows_decide : (rows others : List (ArrayVec (Option ℤ))) → Decides (pointwise (λ r q. pointwise (option_eq int_eq) r.items q.items) rows others) (map (λ r. r.items) rows ≡ map (λ r. r.items) others)
rows_decide = list_decides (λ r. r.items) items_decides

-- One more text of a list, after a comma.
use Rattle.std.proofs.Common.{◌≡◌, ◌<◌, ◌+◌, ℕ, zero, suc, ℤ, List, [], ◌∷◌, ◌++◌, Option, Some, None, length, take, codes, refl, ap, sym, ◌∙◌, append_assoc, add-one, arith}
use Rattle.std.specs.Prelude.{slice_get}
use Rattle.values.specs.Row.{Row}
use Rattle.wire.specs.Printed.{after_commas, row_text, rows_text}
use Rattle.wire.specs.Commas.{comma_before}
use Rattle.wire.proofs.Sinks.{append_nothing}

some_same : {A : Type 0} (x y : A) → Some x ≡ Some y → x ≡ y
some_same x y e = cc

-- each number below the length has an item
pub has_item : {A : Type 0} (xs : List A) (n : ℕ) → slice_get xs n ≡ None → n < length xs → ⊥
has_item [] n e l = omega (arith, l)
has_item (x ∷ xs) zero e l = cc
has_item (x ∷ xs) (suc n) e l = has_item xs n e (omega (arith, l))

-- of the texts after commas
commas_more : {A : Type 0} (f : A → List ℕ) (xs : List A) (n : ℕ) (x : A) → slice_get xs n ≡ Some x → after_commas f (take (suc n) xs) ≡ after_commas f (take n xs) ++ (codes "," ++ f x)
commas_more f [] n x e = absurd (cc)
commas_more f (y ∷ ys) zero x e = append_nothing (codes "," ++ f y) ∙ ap (λ z. codes "," ++ f z) (some_same y x e)
commas_more f (y ∷ ys) (suc n) x e = ap (λ l. (codes "," ++ f y) ++ l) (commas_more f ys n x e) ∙ sym (append_assoc (codes "," ++ f y) (after_commas f (take n ys)) (codes "," ++ f x))

next_row : (rows : List (ℤ × Row)) (n : ℕ) (row : ℤ × Row) → slice_get rows n ≡ Some row → rows_text (take (suc n) rows) ≡ rows_text (take n rows) ++ (comma_before n ++ row_text row)
unfolding rows_text
next_row [] n row e = absurd (cc)
next_row (r ∷ rs) zero row e = append_nothing (row_text r) ∙ ap row_text (some_same r row e)
next_row (r ∷ rs) (suc n) row e = ap (λ l. row_text r ++ l) (commas_more row_text rs n row e) ∙ sym (append_assoc (row_text r) (after_commas row_text (take n rs)) (codes "," ++ row_text row))

-- of rows with commas between them
pub rows_more : (rows : List (ℤ × Row)) (n : ℕ) (row : ℤ × Row) → slice_get rows n ≡ Some row → rows_text (take n rows) ++ (comma_before n ++ row_text row) ≡ rows_text (take (n + 1) rows)
rows_more rows n row e = rw add-one (sym (next_row rows n row e))

pub no_rows : [] ≡ rows_text []
unfolding rows_text
no_rows = refl

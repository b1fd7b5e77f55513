-- A part of a log's columns as a batch.
use Rattle.std.proofs.Common.{◌≡◌, ℕ, ℤ, suc, ◌+◌, ◌-◌, ◌<◌, ◌≤◌, Bool, true, false, not, Option, None, List, [], ◌∷◌, length, map, replicate, slice_range, get_or, refl, ap, sym, ◌∙◌, arith}
use Prim.Native.Nat.{zero}
use Rattle.std.specs.List.{All, range_with_len}
use Rattle.std.proofs.lemmas.List.{length-map, length-replicate}
use Rattle.std.proofs.lemmas.List.Elements.{All-nil, All-head, All-tail, All-cons}
use Rattle.column.specs.Rows.{IsLaidOut, row_at, signed_rows}
use Rattle.values.specs.declared.TheConstants.{MAX_COLUMNS}
use Rattle.values.specs.Row.{Row}
use Rattle.values.specs.Window.{Element}
use Rattle.op_queue.specs.Logs.{entering}
use Rattle.op_queue.specs.Tables.{element_at, elements_in}
use Rattle.op_queue.proofs.BoundLemmas.{get_or-slice_range, length-slice_range}
use Rattle.op_queue.proofs.PlaceLemmas.{slice-map-range}

abbrev pub parts_of : ℕ → ℕ → List (List (Option ℤ)) → List (List (Option ℤ))
parts_of from to columns = map (λ c. slice_range c from to) columns

length-parts : (columns : List (List (Option ℤ))) (from to : ℕ) → from ≤ to → All (λ c. to ≤ length c) columns → All (λ c. length c ≡ length (replicate (to - from) false)) (parts_of from to columns)
length-parts [] from to le h = All-nil (λ c. length c ≡ length (replicate (to - from) false))
length-parts (c ∷ cs) from to le h =
    All-cons (λ c. length c ≡ length (replicate (to - from) false)) (slice_range c from to) (parts_of from to cs)
    (length-slice_range c from to (All-head (λ c. to ≤ length c) c cs h) ∙ sym (length-replicate (to - from) false))
    (length-parts cs from to le (All-tail (λ c. to ≤ length c) c cs h))

pub IsLaidOut-parts : (columns : List (List (Option ℤ))) (from to : ℕ) → from < to → to ≤ from + 1024 → length columns ≤ MAX_COLUMNS → All (λ c. to ≤ length c) columns → IsLaidOut (parts_of from to columns) (replicate (to - from) false)
IsLaidOut-parts columns from to some few narrow h =
    let cut : List (Option ℤ) → List (Option ℤ) = λ c. slice_range c from to in
    let n = length-replicate (to - from) false in
    record {
      some = omega arith;
      few = omega arith;
      narrow = omega (arith, length-map columns cut);
      same = length-parts columns from to (omega arith) h;
    }

get_or-none : (n i : ℕ) → get_or (replicate n false) i false ≡ false
get_or-none zero i = refl
get_or-none (suc n) zero = refl
get_or-none (suc n) (suc i) = get_or-none n i

row_at-parts : (columns : List (List (Option ℤ))) (from to i : ℕ) → i < to - from → row_at (parts_of from to columns) i ≡ row_at columns (from + i)
row_at-parts [] from to i lt = refl
row_at-parts (c ∷ cs) from to i lt =
    ap (λ v. v ∷ row_at (parts_of from to cs) i) (get_or-slice_range c from to i None lt) ∙ ap (λ r. get_or c (from + i) None ∷ r) (row_at-parts cs from to i lt)

map-range-shift : {X : Type 0} (f g : ℕ → X) (a b n : ℕ) → ((i : ℕ) → i < n → f (a + i) ≡ g (b + i)) → map f (range_with_len a n) ≡ map g (range_with_len b n)
map-range-shift f g a b zero h = refl
map-range-shift f g a b (suc n) h =
    let y : a ≡ a + 0 = omega arith in
    let z : b + 0 ≡ b = omega arith in
    ap (λ x. x ∷ map f (range_with_len (a + 1) n)) (ap f y ∙ h 0 (omega arith) ∙ ap g z)
    ∙ ap (λ xs. g b ∷ xs)
    (map-range-shift f g (a + 1) (b + 1) n
    (λ i lt.
    let u : a + 1 + i ≡ a + suc i = omega arith in
    let v : b + suc i ≡ b + 1 + i = omega arith in
    ap f u ∙ h (suc i) (omega arith) ∙ ap g v))

map-map : {A B C : Type 0} (f : B → C) (g : A → B) (xs : List A) → map f (map g xs) ≡ map (λ x. f (g x)) xs
map-map f g [] = refl
map-map f g (x ∷ xs) = ap (λ ys. f (g x) ∷ ys) (map-map f g xs)

pub signed_rows-parts : (n : ℕ) (instants numbers : List ℕ) (columns : List (List (Option ℤ))) (from to : ℕ) → from ≤ to → to ≤ n → signed_rows (parts_of from to columns) (replicate (to - from) false) ≡ map entering (slice_range (elements_in n instants numbers columns) from to)
signed_rows-parts n instants numbers columns from to le within =
    let at : ℕ → Element = element_at instants numbers columns in
    let f : ℕ → Bool × Row = λ i. (not (get_or (replicate (to - from) false) i false), row_at (parts_of from to columns) i) in
    let g : ℕ → Bool × Row = λ i. entering (at i) in
    ap (λ k. map f (range_with_len 0 k)) (length-replicate (to - from) false)
    ∙ map-range-shift f g 0 from (to - from)
    (λ i lt.
    let z : 0 + i ≡ i = omega arith in
    ap f z ∙ ap (λ (b : Bool). (not b, row_at (parts_of from to columns) i)) (get_or-none (to - from) i) ∙ ap (λ (r : Row). (true, r)) (row_at-parts columns from to i lt))
    ∙ sym (map-map entering at (range_with_len from (to - from)))
    ∙ ap (map entering) (sym (slice-map-range at n from to le within))

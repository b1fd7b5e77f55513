-- Batches that are equal.
use Rattle.std.proofs.Common.{ℕ, None, List, [], Bool, true, false, not, ◌≡◌, ◌<◌, length, ap, refl, sym, ◌∙◌, arith}
use Rattle.std.proofs.Math.ListN.{get_or}
use Rattle.std.proofs.lemmas.List.{ext_get_or, get_or-map, length-map}
use Rattle.values.specs.Row.{Row, value_at}
use Rattle.column.specs.Rows.{IsBatch, width}
use Rattle.turn.specs.Same.{HaveSameColumns, leaving}

not_same : (x y : Bool) → not x ≡ not y → x ≡ y
not_same true true h = refl
not_same true false h = cc
not_same false true h = cc
not_same false false h = refl

module _ (a b : List (Bool × Row)) (a_is : IsBatch a) (b_is : IsBatch b) (long : length a ≡ length b) (wide : width a ≡ width b)
    (signs : leaving a ≡ leaving b) (columns : HaveSameColumns a b) where
  sign_at : (i : ℕ) → i < length a → (get_or a i (true, [])).0 ≡ (get_or b i (true, [])).0
  sign_at i h = not_same _ _
      (sym (get_or-map (λ r. not r.0) a i (true, []) false h) ∙ ap (λ l. get_or l i false) signs ∙ get_or-map (λ r. not r.0) b i (true, []) false (omega (arith, h, long)))

  value_in : (i k : ℕ) → i < length a → k < width a → value_at (get_or a i (true, [])).1 k ≡ value_at (get_or b i (true, [])).1 k
  value_in i k h l =
      sym (get_or-map (λ r. value_at r.1 k) a i (true, []) None h) ∙ ap (λ c. get_or c i None) (columns k l)
      ∙ get_or-map (λ r. value_at r.1 k) b i (true, []) None (omega (arith, h, long))

  row_in : (i : ℕ) → i < length a → (get_or a i (true, [])).1 ≡ (get_or b i (true, [])).1
  row_in i h =
      let m : length (get_or a i (true, [])).1 ≡ width a = a_is.one_width i (true, []) h in
      let n : length (get_or b i (true, [])).1 ≡ width b = b_is.one_width i (true, []) (omega (arith, h, long)) in
      ext_get_or None _ _ (m ∙ wide ∙ sym n) (λ k l. value_in i k h (omega (arith, l, m)))

  pub same_batch : a ≡ b
  same_batch = ext_get_or (true, []) a b long (λ i h. λ t. (sign_at i h t, row_in i h t))

pub same_length : (a b : List (Bool × Row)) → length a ≡ length b → length (leaving a) ≡ length (leaving b)
same_length a b e = length-map a (λ r. not r.0) ∙ e ∙ sym (length-map b (λ r. not r.0))

pub length-leaving : (a : List (Bool × Row)) → length (leaving a) ≡ length a
length-leaving a = length-map a (λ r. not r.0)

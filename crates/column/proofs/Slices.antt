-- Ranges of a list.
use Rattle.std.proofs.Common.{ℕ, List, [], ◌∷◌, ◌++◌, ◌≡◌, ◌<◌, ◌≤◌, ◌+◌, ◌-◌, length, refl, sym, ◌∙◌, ap, arith, slice_range, min, take, drop, inl, inr}
use Rattle.std.proofs.Math.ListN.{get_or}
use Rattle.std.proofs.lemmas.List.{take_more, get_or-drop, length-drop, take_all}
use Rattle.std.proofs.lemmas.Bool.{cases_lt, cases_order}

pub slice_range_more : {X : Type 0} (xs : List X) (a i : ℕ) (d : X) → a ≤ i → i < length xs → slice_range xs a (i + 1) ≡ slice_range xs a i ++ get_or xs i d ∷ []
slice_range_more xs a i d l h =
    let e : i + 1 - a ≡ i - a + 1 = omega arith in
    let f : a + (i - a) ≡ i = omega arith in
    ap (λ n. take n (drop a xs)) e ∙ take_more (drop a xs) (i - a) d (omega (arith, length-drop a xs))
    ∙ ap (λ x. take (i - a) (drop a xs) ++ x ∷ []) (get_or-drop a xs (i - a) d ∙ ap (λ n. get_or xs n d) f)

-- two ends past the list give the same
pub slice_range_past : {X : Type 0} (xs : List X) (a i j : ℕ) → length xs ≤ i → length xs ≤ j → slice_range xs a i ≡ slice_range xs a j
slice_range_past xs a i j h k = take_all (i - a) (drop a xs) (omega (arith, length-drop a xs)) ∙ sym (take_all (j - a) (drop a xs) (omega (arith, length-drop a xs)))

-- where the end was brought back to the list's
pub slice_range_cut : {X : Type 0} (xs : List X) (a to end i : ℕ) → end ≡ min to (length xs) → a ≤ i → end ≤ i → (a ≤ end → i ≤ end) → (end < a → i ≡ a) → slice_range xs a i ≡ slice_range xs a to
slice_range_cut xs a to end i e l m h k = elim (cases_order (length xs) to) [
  | inl q ↦ slice_range_past xs a i to (omega (arith, q)) (omega (arith, q))
  | inr q ↦ elim q [
    | inl p ↦ slice_range_past xs a i to (omega (arith, p)) (omega (arith, p))
    | inr p ↦
        let short : i - a ≡ to - a = elim (cases_order end a) [
          | inl f ↦ omega (arith, p, f, h (omega (arith, f)))
          | inr f ↦ elim f [ inl f ↦ omega (arith, p, f, k f) | inr f ↦ omega (arith, p, f, h (omega (arith, f))) ]
        ] in
        ap (λ n. take n (drop a xs)) short
  ]
]

pub slice_range_none : {X : Type 0} (xs : List X) (a to end : ℕ) → end ≡ min to (length xs) → end ≤ a → [] ≡ slice_range xs a to
slice_range_none xs a to end e h =
    ap (λ n. take n (drop a xs)) (let none : 0 ≡ a - a = omega arith in none) ∙ slice_range_cut xs a to end a e (omega arith) h (λ l. l) (λ l. refl)

-- where a range begins past the list's end, it is as empty from that end on
pub slice_range_within : {X : Type 0} (xs : List X) (a to end start : ℕ) → end ≡ min to (length xs) → start ≡ min a end → slice_range xs start end ≡ slice_range xs a to
slice_range_within xs a to end start e s = elim (cases_lt a end) [
  | inl h ↦ ap (λ n. slice_range xs n end) (let l : start ≡ a = omega (arith, h) in l) ∙ slice_range_cut xs a to end end e (omega (arith, h)) (omega arith) (λ l. omega arith) (λ l. absurd (omega (arith, h)))
  | inr h ↦ sym (slice_range_none xs start end end (omega arith) (omega (arith, h))) ∙ slice_range_none xs a to end e h
]

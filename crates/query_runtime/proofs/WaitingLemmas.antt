-- Answers that wait and are handed out.
use Rattle.std.proofs.Common.{◌≡◌, ◌+◌, ◌<◌, ◌&&◌, ℕ, zero, suc, ℤ, Bool, true, false, pos, nat_lt, Option, List, [], ◌∷◌, ◌++◌, take, refl, sym, ap, ◌∙◌, arith, append-nil, append_assoc}
use Rattle.std.proofs.lemmas.List.{map-append}
use Rattle.std.proofs.lemmas.Bool.{ltb-true}
use Rattle.arrayvec.specs.ArrayVec.{ArrayVec}
use Rattle.values.specs.Row.{Row}
use Rattle.reference.specs.CallViews.{handed_of}
use Rattle.reference.specs.Inputs.{are_signed}
use Rattle.reference.specs.World.{handed}

-- one answer more is handed out
pub moved : (rows pushed : List (ℤ × ArrayVec (Option ℤ))) (old new : List (ℕ × Row)) (at : ℕ) (row : ArrayVec (Option ℤ)) (n m : ℕ) → n ≡ m + 1
    → old ≡ (at, row.items) ∷ new → pushed ≡ rows ++ (pos at, row) ∷ []
    → handed_of pushed ++ handed (take m new) ≡ handed_of rows ++ handed (take n old)
moved rows pushed old new at row n m count front back =
    let next : n ≡ suc m = omega (arith, count) in
    rw (back, front, next)
    (ap (λ v. v ++ handed (take m new)) (map-append (λ (a : ℤ × ArrayVec (Option ℤ)). (a.0, a.1.items)) rows ((pos at, row) ∷ []))
    ∙ append_assoc (handed_of rows) ((pos at, row.items) ∷ []) (handed (take m new)))

-- none is left to be handed out
pub none_moved : (rows : List (ℤ × ArrayVec (Option ℤ))) (old : List (ℕ × Row)) (n : ℕ) → old ≡ [] → handed_of rows ≡ handed_of rows ++ handed (take n old)
none_moved rows old zero none = sym (append-nil (handed_of rows))
none_moved rows old (suc n) none = rw none (sym (append-nil (handed_of rows)))

pub pushed : (rows next : List (ℤ × Row)) (old new : List (ℕ × Row)) (at : ℕ) (row : Row) → old ≡ (at, row) ∷ new → next ≡ rows ++ (pos at, row) ∷ [] → next ++ handed new ≡ rows ++ handed old
pushed rows next old new at row front back = ap (λ l. l ++ handed new) back ∙ append_assoc rows ((pos at, row) ∷ []) (handed new) ∙ ap (λ l. rows ++ handed l) (sym front)

pub signed-rest : (old new : List (ℕ × Row)) (at : ℕ) (row : Row) → old ≡ (at, row) ∷ new → are_signed old ≡ true → are_signed new ≡ true
signed-rest old new at row front h = second (nat_lt at 0x8000_0000_0000_0000) _ (rw front at h)
  where
    second : (a b : Bool) → (a && b) ≡ true → b ≡ true
    second true b h = h
    second false b h = cc

pub signed-take : (n : ℕ) (xs : List (ℕ × Row)) → are_signed xs ≡ true → are_signed (take n xs) ≡ true
signed-take zero xs h = refl
signed-take (suc n) [] h = refl
signed-take (suc n) (x ∷ xs) h = both (nat_lt x.0 0x8000_0000_0000_0000) (are_signed xs) (are_signed (take n xs)) h (signed-take n xs)
  where
    both : (a b c : Bool) → (a && b) ≡ true → (b ≡ true → c ≡ true) → (a && c) ≡ true
    both true b c h f = f h
    both false b c h f = absurd (cc)

pub signed-first : (old new : List (ℕ × Row)) (at : ℕ) (row : Row) → old ≡ (at, row) ∷ new → are_signed old ≡ true → at < 0x8000_0000_0000_0000
signed-first old new at row front h = ltb-true at 0x8000_0000_0000_0000 (first (nat_lt at 0x8000_0000_0000_0000) _ (rw front at h))
  where
    first : (a b : Bool) → (a && b) ≡ true → a ≡ true
    first true b h = refl
    first false b h = cc

-- The tallies of a group, one after the other.
use Rattle.std.proofs.Common.{◌≡◌, ℕ, ℤ, zero, suc, ◌<◌, ◌≤◌, map, List, [], ◌∷◌, ◌++◌, take, length, get_or, refl, ap, arith, slice_set, Bool, true, false, not, None, sym, ◌+◌, ◌∙◌, ap₂, append-nil, length-append, replicate, nat_lt, ltb-true, ltb-false, subst, min}
use Rattle.values.specs.Row.{Row}
use Rattle.values.specs.declared.resolved.ListItem.{ListItem}
use Rattle.values.specs.declared.resolved.ListItem.TheVariants.{Key, CountAll, Of}
use Rattle.values.specs.Ranges.{IsAnswerValue}
use Rattle.std.specs.List.{list_any}
use Rattle.std.proofs.lemmas.List.Folds.{list_any_at}
use Rattle.std.proofs.lemmas.List.{length-replicate}
use Rattle.group.specs.Cells.{TallyState, all_tallies, number_of, partly, figure, figures, reads, shown_figure, tally_after, tally_zero}

pub not_not : (b : Bool) → not (not b) ≡ b
not_not true = refl
not_not false = refl

pub partly-at : (f : ListItem → TallyState → TallyState) (p : ℕ) (is : List ListItem) (ts : List TallyState) (d : TallyState) → get_or (partly f p is ts) p d ≡ get_or ts p d
partly-at f zero is ts d = refl
partly-at f (suc p) [] ts d = refl
partly-at f (suc p) (i ∷ is) [] d = refl
partly-at f (suc p) (i ∷ is) (t ∷ ts) d = partly-at f p is ts d

pub partly-more : (f : ListItem → TallyState → TallyState) (p : ℕ) (is : List ListItem) (ts : List TallyState) (d : ListItem) (e : TallyState) → p < length is → length ts ≡ length is → slice_set (partly f p is ts) p (f (get_or is p d) (get_or ts p e)) ≡ partly f (suc p) is ts
partly-more f p [] ts d e h l = absurd (omega arith)
partly-more f p (i ∷ is) [] d e h l = absurd (omega arith)
partly-more f zero (i ∷ is) (t ∷ ts) d e h l = refl
partly-more f (suc p) (i ∷ is) (t ∷ ts) d e h l = ap (λ us. f i t ∷ us) (partly-more f p is ts d e (omega arith) (omega arith))

pub length-partly : (f : ListItem → TallyState → TallyState) (p : ℕ) (is : List ListItem) (ts : List TallyState) → length (partly f p is ts) ≡ length ts
length-partly f zero is ts = refl
length-partly f (suc p) [] ts = refl
length-partly f (suc p) (i ∷ is) [] = refl
length-partly f (suc p) (i ∷ is) (t ∷ ts) = ap suc (length-partly f p is ts)

-- the figures of the first p items and one more
pub figures-more : (k : Row) (n : ℤ) (p : ℕ) (is : List ListItem) (ts : List TallyState) (d : ListItem) (e : TallyState) → p < length is → p < length ts → figures k n (take p is) ts ++ figure k n (get_or is p d) (get_or ts p e) ∷ [] ≡ figures k n (take (suc p) is) ts
figures-more k n p [] ts d e h l = absurd (omega arith)
figures-more k n p (i ∷ is) [] d e h l = absurd (omega arith)
figures-more k n zero (i ∷ is) (t ∷ ts) d e h l = refl
figures-more k n (suc p) (i ∷ is) (t ∷ ts) d e h l = ap (λ us. figure k n i t ∷ us) (figures-more k n p is ts d e (omega arith) (omega arith))

-- the figures stop where the items or the tallies do
pub figures-all : (k : Row) (n : ℤ) (p : ℕ) (is : List ListItem) (ts : List TallyState) → p ≡ min (length is) (length ts) → figures k n (take p is) ts ≡ figures k n is ts
figures-all k n zero [] ts h = refl
figures-all k n (suc p) [] ts h = refl
figures-all k n zero (i ∷ is) [] h = refl
figures-all k n (suc p) (i ∷ is) [] h = refl
figures-all k n zero (i ∷ is) (t ∷ ts) h = absurd (omega (arith, h))
figures-all k n (suc p) (i ∷ is) (t ∷ ts) h = ap (λ us. figure k n i t ∷ us) (figures-all k n p is ts (omega (arith, h)))

-- what holds below p and at p holds below the next
pub below_more : (P : ℕ → Type 0) (p : ℕ) → ((k : ℕ) → k < p → P k) → P p → (k : ℕ) → k < suc p → P k
below_more P p h at k lt = here (nat_lt k p) refl
  where
    here : (b : Bool) → nat_lt k p ≡ b → P k
    here true e = h k (ltb-true k p e)
    here false e = let same : p ≡ k = omega (arith, lt, ltb-false k p e) in subst P same at

-- the row that the figures are shown as has at most as many values as the list has items
row_few : (k : Row) (n : ℤ) (is : List ListItem) (ts : List TallyState) → length (map shown_figure (figures k n is ts)) ≤ length is
row_few k n [] ts = omega arith
row_few k n (i ∷ is) [] = omega arith
row_few k n (i ∷ is) (t ∷ ts) = omega (arith, row_few k n is ts)

pub row_within : (vs k : Row) (n : ℤ) (is : List ListItem) (ts : List TallyState) (m : ℕ) → vs ≡ map shown_figure (figures k n is ts) → length is ≤ m → length vs ≤ m
row_within vs k n is ts m e h = omega (arith, ap (λ (us : Row). length us) e, row_few k n is ts, h)

-- TALLIES OF NO NUMBERS

zeros : (n p : ℕ) → get_or (replicate n tally_zero) p tally_zero ≡ tally_zero
zeros zero p = refl
zeros (suc n) zero = refl
zeros (suc n) (suc p) = zeros n p

pub padded : (more : ℕ) (ts : List TallyState) → all_tallies more ts ≡ ts ++ replicate more tally_zero
padded zero ts = sym (append-nil ts)
padded (suc n) ts = refl

padded_at : (more : ℕ) (ts : List TallyState) (p : ℕ) → get_or (ts ++ replicate more tally_zero) p tally_zero ≡ get_or ts p tally_zero
padded_at more [] p = zeros more p
padded_at more (t ∷ ts) zero = refl
padded_at more (t ∷ ts) (suc p) = padded_at more ts p

-- a tally that is not there is one of no numbers
pub padded-at : (more : ℕ) (ts : List TallyState) (p : ℕ) → get_or (all_tallies more ts) p tally_zero ≡ get_or ts p tally_zero
padded-at more ts p = ap (λ (us : List TallyState). get_or us p tally_zero) (padded more ts) ∙ padded_at more ts p

pub length-padded : (more : ℕ) (ts : List TallyState) → length (all_tallies more ts) ≡ length ts + more
length-padded more ts = omega (arith, ap (λ (us : List TallyState). length us) (padded more ts), length-append ts (replicate more tally_zero), length-replicate more tally_zero)

-- ITEMS THAT READ NO NUMBERS

no_number : (i : ListItem) (r : Row) → reads i ≡ false → number_of i r ≡ None
no_number (Key k) r e = refl
no_number CountAll r e = refl
no_number (Of a c) r e = cc

still : (s : Bool × Row) (i : ListItem) (t : TallyState) → reads i ≡ false → tally_after s i t ≡ t
still s (Key k) t e = refl
still s CountAll t e = refl
still s (Of a c) t e = cc

not_both : (b : Bool) → (b ≡ true → ⊥) → b ≡ false
not_both true h = absurd (h refl)
not_both false h = refl

reads_none : (is : List ListItem) (k : ℕ) → list_any reads is ≡ false → k < length is → reads (get_or is k (Key 0)) ≡ false
reads_none is k e h = not_both (reads (get_or is k (Key 0))) (λ t. let f = list_any_at reads is k (Key 0) h t in cc)

each_still : (s : Bool × Row) (is : List ListItem) (ts : List TallyState) → ((k : ℕ) → k < length is → reads (get_or is k (Key 0)) ≡ false) → partly (tally_after s) (length is) is ts ≡ ts
each_still s [] ts h = refl
each_still s (i ∷ is) [] h = refl
each_still s (i ∷ is) (t ∷ ts) h = ap₂ (λ (a : TallyState) (b : List TallyState). a ∷ b) (still s i t (h 0 (omega arith))) (each_still s is ts (λ k l. h (suc k) (omega (arith, l))))

pub unread : (s : Bool × Row) (is : List ListItem) (ts : List TallyState) → list_any reads is ≡ false → partly (tally_after s) (length is) is ts ≡ ts
unread s is ts e = each_still s is ts (λ k h. reads_none is k e h)

pub unread-range : (is : List ListItem) (r : Row) (k : ℕ) → list_any reads is ≡ false → k < length is → IsAnswerValue (number_of (get_or is k (Key 0)) r)
unread-range is r k e h = subst IsAnswerValue (sym (no_number (get_or is k (Key 0)) r (reads_none is k e h))) tt

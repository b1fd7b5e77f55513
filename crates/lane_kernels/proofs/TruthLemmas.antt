use Rattle.std.proofs.Common.{ℕ, Bool, List, ◌≡◌, ◌<◌, ◌≤◌, ◌-◌, ◌/◌, ◌%◌, ◌==◌, cond, length, refl, sym, ◌∙◌, ap, subst, arith, zero, suc, bit_and, bit_or, min, max, Fits, inl, inr, Some, None, Option}
use Rattle.std.specs.Int.{bit_at, bit_not, w64}
use Rattle.std.proofs.lemmas.Nat.Bits.{bit_at_and, bit_at_or, bit_at_not, bit_at-lt, bit_at-zero}
use Rattle.std.proofs.lemmas.List.{get_or_past}
use Rattle.std.proofs.lemmas.Bool.{cases_lt}
use Rattle.std.proofs.Math.ListN.{get_or}
use Rattle.std.proofs.Math.Facts.{Fits-lt-pow}
use Rattle.column.specs.Bits.{place}
use Rattle.lane_kernels.specs.Truth.{truth_at, IsKnownTruth, IsClearFrom}
use Rattle.values.specs.Condition.{not3, and3, or3}

-- the words of one place of two lists
pub record IsWritten (t k truth known : ℕ) : Type 0 where
  pub truth_is : truth ≡ t
  pub known_is : known ≡ k

-- the three truths by their bits
pub three : (P : ℕ → ℕ → Type 0) → P 0 0 → P 0 1 → P 1 1 → (t k : ℕ) → k < 2 → t ≤ k → P t k
three P a b c zero zero h l = a
three P a b c zero (suc zero) h l = b
three P a b c (suc zero) (suc zero) h l = c
three P a b c (suc t) zero h l = absurd (omega arith)
three P a b c (suc (suc t)) (suc zero) h l = absurd (omega arith)
three P a b c t (suc (suc k)) h l = absurd (omega arith)

abbrev pub of_bits : ℕ → ℕ → Option Bool
of_bits t k = cond (k == 1) (Some (t == 1)) None

pub not_bits : (t k : ℕ) → k < 2 → t ≤ k → (of_bits (min k (1 - t)) k ≡ not3 (of_bits t k)) × (min k (1 - t) ≤ k)
not_bits = three (λ t k. (of_bits (min k (1 - t)) k ≡ not3 (of_bits t k)) × (min k (1 - t) ≤ k)) (refl, omega arith) (refl, omega arith) (refl, omega arith)

abbrev AndBits : ℕ → ℕ → ℕ → ℕ → Type 0
AndBits t k u l = (of_bits (min t u) (max (max (min k l) (min k (1 - t))) (min l (1 - u))) ≡ and3 (of_bits t k) (of_bits u l)) × (min t u ≤ max (max (min k l) (min k (1 - t))) (min l (1 - u)))

pub and_bits : (t k u l : ℕ) → k < 2 → t ≤ k → l < 2 → u ≤ l → AndBits t k u l
and_bits t k u l p q r s =
    three (λ t k. AndBits t k u l)
    (three (λ u l. AndBits 0 0 u l) (refl, omega arith) (refl, omega arith) (refl, omega arith) u l r s)
    (three (λ u l. AndBits 0 1 u l) (refl, omega arith) (refl, omega arith) (refl, omega arith) u l r s)
    (three (λ u l. AndBits 1 1 u l) (refl, omega arith) (refl, omega arith) (refl, omega arith) u l r s) t k p q

abbrev OrBits : ℕ → ℕ → ℕ → ℕ → Type 0
OrBits t k u l = (of_bits (max t u) (max (max (min k l) t) u) ≡ or3 (of_bits t k) (of_bits u l)) × (max t u ≤ max (max (min k l) t) u)

pub or_bits : (t k u l : ℕ) → k < 2 → t ≤ k → l < 2 → u ≤ l → OrBits t k u l
or_bits t k u l p q r s =
    three (λ t k. OrBits t k u l)
    (three (λ u l. OrBits 0 0 u l) (refl, omega arith) (refl, omega arith) (refl, omega arith) u l r s)
    (three (λ u l. OrBits 0 1 u l) (refl, omega arith) (refl, omega arith) (refl, omega arith) u l r s)
    (three (λ u l. OrBits 1 1 u l) (refl, omega arith) (refl, omega arith) (refl, omega arith) u l r s) t k p q

pub past_is_zero : (words : List ℕ) (i : ℕ) → length words ≤ i / 64 → place words i ≡ 0
past_is_zero words i h = ap (λ n. bit_at n (i % 64)) (get_or_past words (i / 64) 0 h) ∙ bit_at-zero (i % 64)

-- a word list written by words is, at each place, what its words' bits are
module _ (n : ℕ) (truth known : List ℕ) (long_t : length truth ≡ n) (long_k : length known ≡ n) where
  pub by_words : (T K : ℕ → ℕ) → ((k : ℕ) → k < n → IsWritten (T k) (K k) (get_or truth k 0) (get_or known k 0)) → (t k : ℕ) (i : ℕ)
      → (i / 64 < n → (bit_at (T (i / 64)) (i % 64) ≡ t) × (bit_at (K (i / 64)) (i % 64) ≡ k)) → (n ≤ i / 64 → (0 ≡ t) × (0 ≡ k))
      → (place truth i ≡ t) × (place known i ≡ k)
  by_words T K each t k i within past = elim (cases_lt (i / 64) n) [
    | inl h ↦ let w = each (i / 64) h in (ap (λ m. bit_at m (i % 64)) w.truth_is ∙ (within h).0, ap (λ m. bit_at m (i % 64)) w.known_is ∙ (within h).1)
    | inr h ↦ (past_is_zero truth i (omega (arith, long_t, h)) ∙ (past h).0, past_is_zero known i (omega (arith, long_k, h)) ∙ (past h).1)
  ]

-- a claim on the bits of a place, from the bits that were written there
pub along : (P : ℕ → ℕ → Type 0) (t k u l : ℕ) → (u ≡ t) × (l ≡ k) → P t k → P u l
along P t k u l e p = let Q : ℕ → Type 0 = λ v. P v l in let R : ℕ → Type 0 = λ v. P t v in subst Q (sym e.0) (subst R (sym e.1) p)

abbrev pub FitWords : List ℕ → Type 0
FitWords xs = (k : ℕ) → Fits w64 (get_or xs k 0)

not_at : (xs : List ℕ) → FitWords xs → (i : ℕ) → bit_at (bit_not w64 (get_or xs (i / 64) 0)) (i % 64) ≡ 1 - place xs i
not_at xs f i = bit_at_not w64 (get_or xs (i / 64) 0) (i % 64) (Fits-lt-pow (f (i / 64))) (omega arith)

pub not_places : (a b truth known : List ℕ) → FitWords a → IsKnownTruth a b → length b ≡ length a → length truth ≡ length a → length known ≡ length a
    → ((k : ℕ) → k < length a → IsWritten (bit_and (get_or b k 0) (bit_not w64 (get_or a k 0))) (get_or b k 0) (get_or truth k 0) (get_or known k 0))
    → (i : ℕ) → (truth_at truth known i ≡ not3 (truth_at a b i)) × (place truth i ≤ place known i)
not_places a b truth known f kt lb lt lk each i =
    along (λ u l. (of_bits u l ≡ not3 (truth_at a b i)) × (u ≤ l)) _ _ _ _
    (by_words (length a) truth known lt lk (λ k. bit_and (get_or b k 0) (bit_not w64 (get_or a k 0))) (λ k. get_or b k 0) each (min (place b i) (1 - place a i)) (place b i) i
    (λ h. (bit_at_and _ _ _ ∙ ap (min (place b i)) (not_at a f i), refl))
    (λ h. let z : place b i ≡ 0 = past_is_zero b i (omega (arith, lb, h)) in (omega (arith, z), sym z)))
    (not_bits (place a i) (place b i) (bit_at-lt _ _) (kt i))

pub and_places : (a b c d truth known : List ℕ) → FitWords a → FitWords c → IsKnownTruth a b → IsKnownTruth c d → length b ≡ length a → length c ≡ length a → length d ≡ length a → length truth ≡ length a → length known ≡ length a
    → ((k : ℕ) → k < length a → IsWritten (bit_and (get_or a k 0) (get_or c k 0)) (bit_or (bit_or (bit_and (get_or b k 0) (get_or d k 0)) (bit_and (get_or b k 0) (bit_not w64 (get_or a k 0)))) (bit_and (get_or d k 0) (bit_not w64 (get_or c k 0)))) (get_or truth k 0) (get_or known k 0))
    → (i : ℕ) → (truth_at truth known i ≡ and3 (truth_at a b i) (truth_at c d i)) × (place truth i ≤ place known i)
and_places a b c d truth known f g p q lb lc ld lt lk each i =
    along (λ u l. (of_bits u l ≡ and3 (truth_at a b i) (truth_at c d i)) × (u ≤ l)) _ _ _ _
    (by_words (length a) truth known lt lk (λ k. bit_and (get_or a k 0) (get_or c k 0)) (λ k. bit_or (bit_or (bit_and (get_or b k 0) (get_or d k 0)) (bit_and (get_or b k 0) (bit_not w64 (get_or a k 0)))) (bit_and (get_or d k 0) (bit_not w64 (get_or c k 0)))) each
    (min (place a i) (place c i)) (max (max (min (place b i) (place d i)) (min (place b i) (1 - place a i))) (min (place d i) (1 - place c i))) i
    (λ h. (bit_at_and _ _ _, simp (bit_at_or, bit_at_and, not_at a f i, not_at c g i)))
    (λ h. let z : place a i ≡ 0 = past_is_zero a i (omega (arith, h)) in let y : place b i ≡ 0 = past_is_zero b i (omega (arith, lb, h)) in let x : place d i ≡ 0 = past_is_zero d i (omega (arith, ld, h)) in (omega (arith, z), omega (arith, y, x))))
    (and_bits (place a i) (place b i) (place c i) (place d i) (bit_at-lt _ _) (p i) (bit_at-lt _ _) (q i))

pub or_places : (a b c d truth known : List ℕ) → IsKnownTruth a b → IsKnownTruth c d → length b ≡ length a → length c ≡ length a → length d ≡ length a → length truth ≡ length a → length known ≡ length a
    → ((k : ℕ) → k < length a → IsWritten (bit_or (get_or a k 0) (get_or c k 0)) (bit_or (bit_or (bit_and (get_or b k 0) (get_or d k 0)) (get_or a k 0)) (get_or c k 0)) (get_or truth k 0) (get_or known k 0))
    → (i : ℕ) → (truth_at truth known i ≡ or3 (truth_at a b i) (truth_at c d i)) × (place truth i ≤ place known i)
or_places a b c d truth known p q lb lc ld lt lk each i =
    along (λ u l. (of_bits u l ≡ or3 (truth_at a b i) (truth_at c d i)) × (u ≤ l)) _ _ _ _
    (by_words (length a) truth known lt lk (λ k. bit_or (get_or a k 0) (get_or c k 0)) (λ k. bit_or (bit_or (bit_and (get_or b k 0) (get_or d k 0)) (get_or a k 0)) (get_or c k 0)) each
    (max (place a i) (place c i)) (max (max (min (place b i) (place d i)) (place a i)) (place c i)) i
    (λ h. (bit_at_or _ _ _, simp (bit_at_or, bit_at_and)))
    (λ h. let z : place a i ≡ 0 = past_is_zero a i (omega (arith, h)) in let y : place b i ≡ 0 = past_is_zero b i (omega (arith, lb, h)) in let x : place c i ≡ 0 = past_is_zero c i (omega (arith, lc, h)) in (omega (arith, z, x), omega (arith, y, z, x))))
    (or_bits (place a i) (place b i) (place c i) (place d i) (bit_at-lt _ _) (p i) (bit_at-lt _ _) (q i))

-- ---- past the length
unknown_bit : (b : ℕ) (v : Bool) → b < 2 → cond (b == 1) (Some v) None ≡ None → b ≡ 0
unknown_bit zero v h e = refl
unknown_bit (suc zero) v h e = cc
unknown_bit (suc (suc b)) v h e = absurd (omega arith)

unknown_at : (truth known : List ℕ) (i : ℕ) → place known i ≡ 0 → truth_at truth known i ≡ None
unknown_at truth known i h = ap (λ b. cond (b == 1) (Some (place truth i == 1)) None) h

pub past_one : (a b truth known : List ℕ) (n : ℕ) → ((i : ℕ) → truth_at truth known i ≡ not3 (truth_at a b i)) → IsClearFrom n b → IsClearFrom n known
past_one a b truth known n each clear i h = unknown_bit (place known i) _ (bit_at-lt _ _) (each i ∙ ap not3 (unknown_at a b i (clear i h)))

pub past_two : (op : Option Bool → Option Bool → Option Bool) (a b c d truth known : List ℕ) (n : ℕ) → op None None ≡ None → ((i : ℕ) → truth_at truth known i ≡ op (truth_at a b i) (truth_at c d i))
    → IsClearFrom n b → IsClearFrom n d → IsClearFrom n known
past_two op a b c d truth known n none each clear_b clear_d i h =
    unknown_bit (place known i) _ (bit_at-lt _ _) (each i ∙ (λ t. op (unknown_at a b i (clear_b i h) t) (unknown_at c d i (clear_d i h) t)) ∙ none)

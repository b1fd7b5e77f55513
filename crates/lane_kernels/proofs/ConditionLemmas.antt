-- Steps on words of 64 truths.
use Rattle.std.proofs.Common.{ℕ, ℤ, pos, Bool, true, false, List, [], ◌∷◌, ◌++◌, ◌≡◌, ◌<◌, ◌≤◌, ◌*◌, ◌+◌, ◌-◌, ◌/◌, ◌%◌, ◌^◌, ◌==◌, cond, length, map, refl, sym, ◌∙◌, ap, arith, zero, suc, bit_and, bit_or, min, max, Some, None, Option, is_some, subst, lit<, below_more, inl, inr}
use Rattle.std.specs.Int.{bit_at, bit_not, w64}
use Rattle.std.specs.Simd.Lanes.{mask_l, chunk, zip2}
use Rattle.std.proofs.Math.ListN.{get_or, take, drop, set}
use Rattle.std.proofs.Math.Nat.{pow-le-pow_right}
use Rattle.std.proofs.lemmas.Simd.{mask_l-lt, get_or-zip2}
use Rattle.std.proofs.lemmas.Nat.Bits.{bit_at_and, bit_at_or, bit_at_not, bit_at-lt, bit_at-zero, bit_at_ones}
use Rattle.std.proofs.lemmas.List.{length-map, length-take, take_more, drop_more, get_or-set_same, get_or-set_other}
use Rattle.values.specs.Row.{Row}
use Rattle.values.specs.Condition.{compared, not3, and3, or3}
use Rattle.values.specs.declared.resolved.Compare.{Compare}
use Rattle.column.specs.Bits.{bits, place, word_count}
use Rattle.column.specs.Columns.{numbers_of}
use Rattle.lane_kernels.specs.Lanes.{test_of, value_at}
use Rattle.lane_kernels.specs.Steps.{IsHeld, AreHeld, StepFits, StepsFit, after, after_all, height_after, top, true_bit, false_bit}
use Rattle.lane_kernels.specs.declared.condition.Word.{Word}
use Rattle.lane_kernels.specs.declared.condition.Step.TheVariants.{And, Or, Not}
use Rattle.lane_kernels.specs.declared.condition.Step.{Step}
use Rattle.lane_kernels.specs.Truth.{IsTruth, truth_at, truths}
use Rattle.std.proofs.lemmas.Bool.{cases_lt}
use Rattle.std.proofs.lemmas.List.FromFn.{fill_by_all}
use Rattle.lane_kernels.proofs.TruthLemmas.{past_is_zero}
use Rattle.lane_kernels.proofs.WordLemmas.{place_of_mask, place_of_bits, value_seen, length-numbers}

and_yes : (x y : Option Bool) → min (true_bit x) (true_bit y) ≡ true_bit (and3 x y)
and_yes None None = refl
and_yes None (Some true) = refl
and_yes None (Some false) = refl
and_yes (Some true) None = refl
and_yes (Some true) (Some true) = refl
and_yes (Some true) (Some false) = refl
and_yes (Some false) None = refl
and_yes (Some false) (Some true) = refl
and_yes (Some false) (Some false) = refl

and_no : (x y : Option Bool) → max (false_bit x) (false_bit y) ≡ false_bit (and3 x y)
and_no None None = refl
and_no None (Some true) = refl
and_no None (Some false) = refl
and_no (Some true) None = refl
and_no (Some true) (Some true) = refl
and_no (Some true) (Some false) = refl
and_no (Some false) None = refl
and_no (Some false) (Some true) = refl
and_no (Some false) (Some false) = refl

or_yes : (x y : Option Bool) → max (true_bit x) (true_bit y) ≡ true_bit (or3 x y)
or_yes None None = refl
or_yes None (Some true) = refl
or_yes None (Some false) = refl
or_yes (Some true) None = refl
or_yes (Some true) (Some true) = refl
or_yes (Some true) (Some false) = refl
or_yes (Some false) None = refl
or_yes (Some false) (Some true) = refl
or_yes (Some false) (Some false) = refl

or_no : (x y : Option Bool) → min (false_bit x) (false_bit y) ≡ false_bit (or3 x y)
or_no None None = refl
or_no None (Some true) = refl
or_no None (Some false) = refl
or_no (Some true) None = refl
or_no (Some true) (Some true) = refl
or_no (Some true) (Some false) = refl
or_no (Some false) None = refl
or_no (Some false) (Some true) = refl
or_no (Some false) (Some false) = refl

pub and_held : (k : ℕ) (a b : Word) (x y : Option Bool) → IsHeld k a x → IsHeld k b y → IsHeld k (record { yes = bit_and a.yes b.yes; no = bit_or a.no b.no }) (and3 x y)
and_held k a b x y p q = record {
  yes_bit = bit_at_and a.yes b.yes k ∙ (λ t. min (p.yes_bit t) (q.yes_bit t)) ∙ and_yes x y;
  no_bit = bit_at_or a.no b.no k ∙ (λ t. max (p.no_bit t) (q.no_bit t)) ∙ and_no x y;
}

pub or_held : (k : ℕ) (a b : Word) (x y : Option Bool) → IsHeld k a x → IsHeld k b y → IsHeld k (record { yes = bit_or a.yes b.yes; no = bit_and a.no b.no }) (or3 x y)
or_held k a b x y p q = record {
  yes_bit = bit_at_or a.yes b.yes k ∙ (λ t. max (p.yes_bit t) (q.yes_bit t)) ∙ or_yes x y;
  no_bit = bit_at_and a.no b.no k ∙ (λ t. min (p.no_bit t) (q.no_bit t)) ∙ or_no x y;
}

pub true_held : (k : ℕ) → k < 64 → IsHeld k (record { yes = 18446744073709551615; no = 0 }) (Some true)
true_held k h = record { yes_bit = bit_at_ones 64 k h; no_bit = bit_at-zero k }

pub false_held : (k : ℕ) → k < 64 → IsHeld k (record { yes = 0; no = 18446744073709551615 }) (Some false)
false_held k h = record { yes_bit = bit_at-zero k; no_bit = bit_at_ones 64 k h }

-- ---- comparisons
one_yes : (q : Bool) → min 1 (cond q 1 0) ≡ true_bit (Some q)
one_yes true = refl
one_yes false = refl

one_no : (q : Bool) → min 1 (1 - cond q 1 0) ≡ false_bit (Some q)
one_no true = refl
one_no false = refl

yes_const : (how : Compare) (x c : ℤ) (b : ℕ) → b < 2 → min b (cond (test_of how x c) 1 0) ≡ true_bit (compared how (cond (b == 1) (Some x) None) (Some c))
yes_const how x c zero h = omega arith
yes_const how x c (suc zero) h = one_yes (test_of how x c)
yes_const how x c (suc (suc b)) h = absurd (omega arith)

no_const : (how : Compare) (x c : ℤ) (b : ℕ) → b < 2 → min b (1 - cond (test_of how x c) 1 0) ≡ false_bit (compared how (cond (b == 1) (Some x) None) (Some c))
no_const how x c zero h = omega arith
no_const how x c (suc zero) h = one_no (test_of how x c)
no_const how x c (suc (suc b)) h = absurd (omega arith)

yes_pair : (how : Compare) (x y : ℤ) (a b : ℕ) → a < 2 → b < 2 → min (min a b) (cond (test_of how x y) 1 0) ≡ true_bit (compared how (cond (a == 1) (Some x) None) (cond (b == 1) (Some y) None))
yes_pair how x y zero zero g h = omega arith
yes_pair how x y zero (suc zero) g h = omega arith
yes_pair how x y (suc zero) zero g h = omega arith
yes_pair how x y (suc zero) (suc zero) g h = one_yes (test_of how x y)
yes_pair how x y (suc (suc a)) b g h = absurd (omega arith)
yes_pair how x y zero (suc (suc b)) g h = absurd (omega arith)
yes_pair how x y (suc zero) (suc (suc b)) g h = absurd (omega arith)

no_pair : (how : Compare) (x y : ℤ) (a b : ℕ) → a < 2 → b < 2 → min (min a b) (1 - cond (test_of how x y) 1 0) ≡ false_bit (compared how (cond (a == 1) (Some x) None) (cond (b == 1) (Some y) None))
no_pair how x y zero zero g h = omega arith
no_pair how x y zero (suc zero) g h = omega arith
no_pair how x y (suc zero) zero g h = omega arith
no_pair how x y (suc zero) (suc zero) g h = one_no (test_of how x y)
no_pair how x y (suc (suc a)) b g h = absurd (omega arith)
no_pair how x y zero (suc (suc b)) g h = absurd (omega arith)
no_pair how x y (suc zero) (suc (suc b)) g h = absurd (omega arith)

pub mask_word : (bs : List Bool) (p : ℕ) → length bs ≤ 64 → p ≡ mask_l bs → p < 2 ^ 64
mask_word bs p h e = let l : mask_l bs < 2 ^ length bs = mask_l-lt bs in rw e (omega (arith, l, pow-le-pow_right {n = 2} (lit< tt) h))

short_chunk : (t : ℤ → Bool) (i : ℕ) (xs : List ℤ) → length (map t (chunk i 64 xs)) ≤ 64
short_chunk t i xs = omega (arith, length-map (chunk i 64 xs) t, length-take 64 (drop i xs))

short_bits : (i : ℕ) (bs : List Bool) → length (chunk i 64 bs) ≤ 64
short_bits i bs = omega (arith, length-take 64 (drop i bs))

pub const_held : (how : Compare) (vs : List (Option ℤ)) (c : ℤ) (numbers : List ℤ) (valid : List ℕ) (w k p : ℕ) → numbers ≡ numbers_of vs → bits (length vs) valid ≡ map is_some vs → k < 64 → 64 * w + k < length vs
    → p ≡ mask_l (map (λ x. test_of how x c) (chunk (64 * w) 64 numbers))
    → IsHeld k (record { yes = bit_and (get_or valid w 0) p; no = bit_and (get_or valid w 0) (bit_not w64 p) }) (compared how (get_or vs (64 * w + k) None) (Some c))
const_held how vs c numbers valid w k p e f h l m =
    let q : w ≡ (64 * w + k) / 64 = omega arith in
    let r : k ≡ (64 * w + k) % 64 = omega arith in
    let b : bit_at (get_or valid w 0) k ≡ place valid (64 * w + k) = λ t. bit_at (get_or valid (q t) 0) (r t) in
    let n : bit_at p k ≡ cond (test_of how (get_or numbers (64 * w + k) (pos 0)) c) 1 0 =
    ap (λ z. bit_at z k) m ∙ (λ t. bit_at (mask_l (map (λ x. test_of how x c) (chunk (64 * q t) 64 numbers))) (r t)) ∙ place_of_mask (λ x. test_of how x c) numbers (64 * w + k) (omega (arith, l, length-numbers vs numbers e)) in
    let o : bit_at (bit_not w64 p) k ≡ 1 - cond (test_of how (get_or numbers (64 * w + k) (pos 0)) c) 1 0 =
    bit_at_not w64 p k (mask_word (map (λ x. test_of how x c) (chunk (64 * w) 64 numbers)) p (short_chunk (λ x. test_of how x c) (64 * w) numbers) m) h ∙ ap (λ z. 1 - z) n in
    let seen : value_at numbers valid (64 * w + k) ≡ get_or vs (64 * w + k) None = value_seen vs numbers valid (64 * w + k) e f l in
    record {
      yes_bit = bit_at_and (get_or valid w 0) p k ∙ (λ t. min (b t) (n t)) ∙ yes_const how (get_or numbers (64 * w + k) (pos 0)) c (place valid (64 * w + k)) (bit_at-lt _ _) ∙ ap (λ v. true_bit (compared how v (Some c))) seen;
      no_bit = bit_at_and (get_or valid w 0) (bit_not w64 p) k ∙ (λ t. min (b t) (o t)) ∙ no_const how (get_or numbers (64 * w + k) (pos 0)) c (place valid (64 * w + k)) (bit_at-lt _ _) ∙ ap (λ v. false_bit (compared how v (Some c))) seen;
    }

pub pair_held : (how : Compare) (vs ws : List (Option ℤ)) (xs ys : List ℤ) (xv yv : List ℕ) (w k p : ℕ) → length ws ≡ length vs → xs ≡ numbers_of vs → ys ≡ numbers_of ws
    → bits (length vs) xv ≡ map is_some vs → bits (length ws) yv ≡ map is_some ws → k < 64 → 64 * w + k < length vs → p ≡ mask_l (chunk (64 * w) 64 (zip2 (test_of how) xs ys))
    → IsHeld k (record { yes = bit_and (bit_and (get_or xv w 0) (get_or yv w 0)) p; no = bit_and (bit_and (get_or xv w 0) (get_or yv w 0)) (bit_not w64 p) }) (compared how (get_or vs (64 * w + k) None) (get_or ws (64 * w + k) None))
pair_held how vs ws xs ys xv yv w k p same ex ey fx fy h l m =
    let q : w ≡ (64 * w + k) / 64 = omega arith in
    let r : k ≡ (64 * w + k) % 64 = omega arith in
    let lw : 64 * w + k < length ws = omega (arith, l, same) in
    let b : bit_at (bit_and (get_or xv w 0) (get_or yv w 0)) k ≡ min (place xv (64 * w + k)) (place yv (64 * w + k)) =
    bit_at_and (get_or xv w 0) (get_or yv w 0) k ∙ (λ t. min (bit_at (get_or xv (q t) 0) (r t)) (bit_at (get_or yv (q t) 0) (r t))) in
    let g : get_or (zip2 (test_of how) xs ys) (64 * w + k) false ≡ test_of how (get_or xs (64 * w + k) (pos 0)) (get_or ys (64 * w + k) (pos 0)) =
    get_or-zip2 (test_of how) xs ys (64 * w + k) (pos 0) (pos 0) false (omega (arith, l, length-numbers vs xs ex)) (omega (arith, lw, length-numbers ws ys ey)) in
    let n : bit_at p k ≡ cond (test_of how (get_or xs (64 * w + k) (pos 0)) (get_or ys (64 * w + k) (pos 0))) 1 0 =
    ap (λ z. bit_at z k) m ∙ (λ t. bit_at (mask_l (chunk (64 * q t) 64 (zip2 (test_of how) xs ys))) (r t)) ∙ place_of_bits (zip2 (test_of how) xs ys) (64 * w + k) ∙ ap (λ z. cond z 1 0) g in
    let o : bit_at (bit_not w64 p) k ≡ 1 - cond (test_of how (get_or xs (64 * w + k) (pos 0)) (get_or ys (64 * w + k) (pos 0))) 1 0 =
    bit_at_not w64 p k (mask_word (chunk (64 * w) 64 (zip2 (test_of how) xs ys)) p (short_bits (64 * w) (zip2 (test_of how) xs ys)) m) h ∙ ap (λ z. 1 - z) n in
    let sx : value_at xs xv (64 * w + k) ≡ get_or vs (64 * w + k) None = value_seen vs xs xv (64 * w + k) ex fx l in
    let sy : value_at ys yv (64 * w + k) ≡ get_or ws (64 * w + k) None = value_seen ws ys yv (64 * w + k) ey fy lw in
    record {
      yes_bit = bit_at_and (bit_and (get_or xv w 0) (get_or yv w 0)) p k ∙ (λ t. min (b t) (n t))
          ∙ yes_pair how (get_or xs (64 * w + k) (pos 0)) (get_or ys (64 * w + k) (pos 0)) (place xv (64 * w + k)) (place yv (64 * w + k)) (bit_at-lt _ _) (bit_at-lt _ _) ∙ (λ t. true_bit (compared how (sx t) (sy t)));
      no_bit = bit_at_and (bit_and (get_or xv w 0) (get_or yv w 0)) (bit_not w64 p) k ∙ (λ t. min (b t) (o t))
          ∙ no_pair how (get_or xs (64 * w + k) (pos 0)) (get_or ys (64 * w + k) (pos 0)) (place xv (64 * w + k)) (place yv (64 * w + k)) (bit_at-lt _ _) (bit_at-lt _ _) ∙ (λ t. false_bit (compared how (sx t) (sy t)));
    }

-- ---- steps on the stack
and_top : (k : ℕ) (a b r : Word) (ws : List Word) (row : Row) (vs : List (Option Bool)) → ((x y : Option Bool) → IsHeld k a x → IsHeld k b y → IsHeld k r (and3 x y)) → AreHeld k (b ∷ a ∷ ws) vs → AreHeld k (r ∷ ws) (after And row vs)
and_top k a b r ws row [] rule h = absurd h
and_top k a b r ws row (v ∷ []) rule h = absurd h.1
and_top k a b r ws row (y ∷ x ∷ vs) rule h = (rule x y h.1.0 h.0, h.1.1)

or_top : (k : ℕ) (a b r : Word) (ws : List Word) (row : Row) (vs : List (Option Bool)) → ((x y : Option Bool) → IsHeld k a x → IsHeld k b y → IsHeld k r (or3 x y)) → AreHeld k (b ∷ a ∷ ws) vs → AreHeld k (r ∷ ws) (after Or row vs)
or_top k a b r ws row [] rule h = absurd h
or_top k a b r ws row (v ∷ []) rule h = absurd h.1
or_top k a b r ws row (y ∷ x ∷ vs) rule h = (rule x y h.1.0 h.0, h.1.1)

not_top : (k : ℕ) (a r : Word) (ws : List Word) (row : Row) (vs : List (Option Bool)) → ((x : Option Bool) → IsHeld k a x → IsHeld k r (not3 x)) → AreHeld k (a ∷ ws) vs → AreHeld k (r ∷ ws) (after Not row vs)
not_top k a r ws row [] rule h = absurd h
not_top k a r ws row (x ∷ vs) rule h = (rule x h.0, h.1)

pub and_step : (k : ℕ) (old s1 s2 new : List Word) (a b r : Word) (row : Row) (vs : List (Option Bool)) → old ≡ b ∷ s1 → s1 ≡ a ∷ s2 → new ≡ r ∷ s2
    → ((x y : Option Bool) → IsHeld k a x → IsHeld k b y → IsHeld k r (and3 x y)) → AreHeld k old vs → AreHeld k new (after And row vs)
and_step k old s1 s2 new a b r row vs e f g rule h =
    let P : List Word → Type 0 = λ l. AreHeld k l vs in
    let Q : List Word → Type 0 = λ l. AreHeld k l (after And row vs) in
    subst Q (sym g) (and_top k a b r s2 row vs rule (subst P (e ∙ ap (λ l. b ∷ l) f) h))

pub or_step : (k : ℕ) (old s1 s2 new : List Word) (a b r : Word) (row : Row) (vs : List (Option Bool)) → old ≡ b ∷ s1 → s1 ≡ a ∷ s2 → new ≡ r ∷ s2
    → ((x y : Option Bool) → IsHeld k a x → IsHeld k b y → IsHeld k r (or3 x y)) → AreHeld k old vs → AreHeld k new (after Or row vs)
or_step k old s1 s2 new a b r row vs e f g rule h =
    let P : List Word → Type 0 = λ l. AreHeld k l vs in
    let Q : List Word → Type 0 = λ l. AreHeld k l (after Or row vs) in
    subst Q (sym g) (or_top k a b r s2 row vs rule (subst P (e ∙ ap (λ l. b ∷ l) f) h))

pub not_step : (k : ℕ) (old s1 new : List Word) (a r : Word) (row : Row) (vs : List (Option Bool)) → old ≡ a ∷ s1 → new ≡ r ∷ s1
    → ((x : Option Bool) → IsHeld k a x → IsHeld k r (not3 x)) → AreHeld k old vs → AreHeld k new (after Not row vs)
not_step k old s1 new a r row vs e g rule h =
    let P : List Word → Type 0 = λ l. AreHeld k l vs in
    let Q : List Word → Type 0 = λ l. AreHeld k l (after Not row vs) in
    subst Q (sym g) (not_top k a r s1 row vs rule (subst P e h))

-- ---- all steps
pub after_all-append : (xs ys : List Step) (row : Row) (ts : List (Option Bool)) → after_all (xs ++ ys) row ts ≡ after_all ys row (after_all xs row ts)
after_all-append [] ys row ts = refl
after_all-append (x ∷ xs) ys row ts = after_all-append xs ys row (after x row ts)

pub steps_more : (steps : List Step) (i : ℕ) (d : Step) (row : Row) → i < length steps → after_all (take (i + 1) steps) row [] ≡ after (get_or steps i d) row (after_all (take i steps) row [])
steps_more steps i d row h = ap (λ l. after_all l row []) (take_more steps i d h) ∙ after_all-append (take i steps) (get_or steps i d ∷ []) row []

pub fits_more : (steps : List Step) (i w h : ℕ) (d : Step) → i < length steps → StepsFit w h (drop i steps) → StepFits w h (get_or steps i d) × StepsFit w (height_after (get_or steps i d) h) (drop (i + 1) steps)
fits_more steps i w h d l f =
    let P : List Step → Type 0 = λ l. StepsFit w h l in
    subst P (drop_more steps i d l) f

top_of : (k : ℕ) (rest : List Word) (w : Word) (vs : List (Option Bool)) → AreHeld k (w ∷ rest) vs → IsHeld k w (top vs)
top_of k rest w [] h = absurd h
top_of k rest w (v ∷ vs) h = h.0

pub top_held : (k : ℕ) (ws rest : List Word) (w : Word) (vs : List (Option Bool)) → ws ≡ w ∷ rest → AreHeld k ws vs → IsHeld k w (top vs)
top_held k ws rest w vs e h = let P : List Word → Type 0 = λ l. AreHeld k l vs in top_of k rest w vs (subst P e h)

-- ---- the words of a whole condition
pub record IsRun (vs : List (Option Bool)) (truth known : List ℕ) (w : ℕ) : Type 0 where
  pub inside_yes : (k : ℕ) → k < 64 → 64 * w + k < length vs → bit_at (get_or truth w 0) k ≡ true_bit (get_or vs (64 * w + k) None)
  pub inside_known : (k : ℕ) → k < 64 → 64 * w + k < length vs → bit_at (get_or known w 0) k ≡ max (true_bit (get_or vs (64 * w + k) None)) (false_bit (get_or vs (64 * w + k) None))
  pub outside_yes : (k : ℕ) → k < 64 → length vs ≤ 64 * w + k → bit_at (get_or truth w 0) k ≡ 0
  pub outside_known : (k : ℕ) → k < 64 → length vs ≤ 64 * w + k → bit_at (get_or known w 0) k ≡ 0

true_bit-one : (v : Option Bool) → min (true_bit v) 1 ≡ true_bit v
true_bit-one None = refl
true_bit-one (Some true) = refl
true_bit-one (Some false) = refl

known_bit-one : (v : Option Bool) → min (max (true_bit v) (false_bit v)) 1 ≡ max (true_bit v) (false_bit v)
known_bit-one None = refl
known_bit-one (Some true) = refl
known_bit-one (Some false) = refl

held_again : (v : Option Bool) → cond (max (true_bit v) (false_bit v) == 1) (Some (true_bit v == 1)) None ≡ v
held_again None = refl
held_again (Some true) = refl
held_again (Some false) = refl

pub run_word_made : (vs : List (Option Bool)) (truth known : List ℕ) (w : ℕ) (found : Word) (count ones : ℕ) → w < length truth → w < length known → count ≡ min (length vs - w * 64) 64
    → ((k : ℕ) → k < 64 → 64 * w + k < length vs → IsHeld k found (get_or vs (64 * w + k) None)) → ((k : ℕ) → k < count → bit_at ones k ≡ 1) → ((k : ℕ) → count ≤ k → bit_at ones k ≡ 0)
    → IsRun vs (set truth w (bit_and found.yes ones)) (set known w (bit_and (bit_or found.yes found.no) ones)) w
run_word_made vs truth known w found count ones p q e held inner outer = record {
  inside_yes = λ k h l.
      ap (λ n. bit_at n k) (get_or-set_same truth w _ 0 p) ∙ bit_at_and found.yes ones k ∙ (λ t. min ((held k h l).yes_bit t) (inner k (omega (arith, e, h, l)) t)) ∙ true_bit-one (get_or vs (64 * w + k) None);
  inside_known = λ k h l.
      ap (λ n. bit_at n k) (get_or-set_same known w _ 0 q) ∙ bit_at_and (bit_or found.yes found.no) ones k
      ∙ (λ t. min (bit_at_or found.yes found.no k t) (inner k (omega (arith, e, h, l)) t)) ∙ (λ t. min (max ((held k h l).yes_bit t) ((held k h l).no_bit t)) 1) ∙ known_bit-one (get_or vs (64 * w + k) None);
  outside_yes = λ k h l. ap (λ n. bit_at n k) (get_or-set_same truth w _ 0 p) ∙ bit_at_and found.yes ones k ∙ (let z : bit_at ones k ≡ 0 = outer k (omega (arith, e, h, l)) in omega (arith, z));
  outside_known = λ k h l. ap (λ n. bit_at n k) (get_or-set_same known w _ 0 q) ∙ bit_at_and (bit_or found.yes found.no) ones k ∙ (let z : bit_at ones k ≡ 0 = outer k (omega (arith, e, h, l)) in omega (arith, z));
}

kept : (vs : List (Option Bool)) (truth known : List ℕ) (w x y k : ℕ) → k < w → IsRun vs truth known k → IsRun vs (set truth w x) (set known w y) k
kept vs truth known w x y k l r =
    let a : get_or (set truth w x) k 0 ≡ get_or truth k 0 = get_or-set_other truth w k x 0 (λ s. omega (arith, s, l)) in
    let b : get_or (set known w y) k 0 ≡ get_or known k 0 = get_or-set_other known w k y 0 (λ s. omega (arith, s, l)) in
    record {
      inside_yes = λ j h m. ap (λ n. bit_at n j) a ∙ r.inside_yes j h m;
      inside_known = λ j h m. ap (λ n. bit_at n j) b ∙ r.inside_known j h m;
      outside_yes = λ j h m. ap (λ n. bit_at n j) a ∙ r.outside_yes j h m;
      outside_known = λ j h m. ap (λ n. bit_at n j) b ∙ r.outside_known j h m;
    }

pub run_more : (vs : List (Option Bool)) (truth known : List ℕ) (w : ℕ) (found : Word) (count ones : ℕ) → w < length truth → w < length known → count ≡ min (length vs - w * 64) 64
    → ((k : ℕ) → k < 64 → 64 * w + k < length vs → IsHeld k found (get_or vs (64 * w + k) None)) → ((k : ℕ) → k < count → bit_at ones k ≡ 1) → ((k : ℕ) → count ≤ k → bit_at ones k ≡ 0)
    → ((k : ℕ) → k < w → IsRun vs truth known k) → (k : ℕ) → k < w + 1 → IsRun vs (set truth w (bit_and found.yes ones)) (set known w (bit_and (bit_or found.yes found.no) ones)) k
run_more vs truth known w found count ones p q e held inner outer each =
    below_more _ w (λ k l. kept vs truth known w _ _ k l (each k l)) (run_word_made vs truth known w found count ones p q e held inner outer)

pub truths_run : (vs : List (Option Bool)) (truth known : List ℕ) → length truth ≡ word_count (length vs) → ((w : ℕ) → w < length truth → IsRun vs truth known w) → truths (length vs) truth known ≡ vs
truths_run vs truth known long each =
    sym (fill_by_all (truth_at truth known) vs (length vs) None refl (λ i h.
    let n : 64 * (i / 64) + i % 64 ≡ i = omega arith in
    let r = each (i / 64) (omega (arith, h, long)) in
    let l : 64 * (i / 64) + i % 64 < length vs = omega (arith, n, h) in
    sym ((λ t. cond (r.inside_known (i % 64) (omega arith) l t == 1) (Some (r.inside_yes (i % 64) (omega arith) l t == 1)) None) ∙ held_again (get_or vs (64 * (i / 64) + i % 64) None) ∙ ap (λ j. get_or vs j None) n)))

pub IsTruth-run : (vs : List (Option Bool)) (truth known : List ℕ) → length truth ≡ word_count (length vs) → length known ≡ length truth → ((w : ℕ) → w < length truth → IsRun vs truth known w) → IsTruth (length vs) truth known
IsTruth-run vs truth known long same each = record {
  true_is_known = λ i. elim (cases_lt (i / 64) (length truth)) [
    | inl h ↦
        let r = each (i / 64) h in
        let k : i % 64 < 64 = omega arith in
        elim (cases_lt (64 * (i / 64) + i % 64) (length vs)) [
          | inl l ↦ omega (arith, r.inside_yes (i % 64) k l, r.inside_known (i % 64) k l)
          | inr l ↦ omega (arith, r.outside_yes (i % 64) k l)
        ]
    | inr h ↦ omega (arith, past_is_zero truth i h)
  ];
  past = λ i m. elim (cases_lt (i / 64) (length truth)) [
    | inl h ↦ (each (i / 64) h).outside_known (i % 64) (omega arith) (omega (arith, m))
    | inr h ↦ past_is_zero known i (omega (arith, h, same))
  ];
}

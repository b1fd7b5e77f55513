use Rattle.std.proofs.Common.{ℕ, ℤ, Bool, true, false, List, ◌≡◌, ◌<◌, ◌≤◌, ◌*◌, ◌+◌, ◌-◌, ◌/◌, ◌%◌, ◌==◌, cond, length, map, refl, sym, ◌∙◌, ap, arith, to_z, of_z, pos, zero, suc, below_more, subst, bit_and, min, inl, inr, Some, None, Option, is_some, unwrap_or}
use Rattle.std.specs.Simd.Lanes.{mask_l, chunk}
use Rattle.std.proofs.lemmas.Simd.{bit_mask_l, get_or-chunk}
use Rattle.std.proofs.lemmas.Nat.Bits.{bit_at_and, bit_at-lt, bit_at-zero}
use Rattle.std.proofs.lemmas.List.{get_or-map, length-take, length-drop, take_min, get_or_past, get_or-set_same, get_or-set_other}
use Rattle.std.proofs.lemmas.Bool.{cases_lt}
use Rattle.std.specs.Int.{bit_at}
use Rattle.std.proofs.Math.ListN.{get_or, take, drop, set}
use Rattle.std.proofs.lemmas.Int.{to_z-of_z}
use Rattle.std.proofs.lemmas.List.{length-map}
use Rattle.std.proofs.lemmas.List.FromFn.{fill_by_all}
use Rattle.std.proofs.lemmas.Simd.{length-zip2, get_or-zip2}
use Rattle.std.specs.Simd.Lanes.{zip2}
use Rattle.values.specs.Condition.{compared}
use Rattle.values.specs.declared.resolved.Compare.{Compare}
use Rattle.column.specs.Bits.{bits}
use Rattle.column.specs.Columns.{numbers_of}
use Rattle.column.proofs.BitLemmas.{get_or-bits}
use Rattle.column.proofs.ColumnLemmas.{value_back}
use Rattle.lane_kernels.specs.Truth.{truths}
use Rattle.lane_kernels.specs.Lanes.{test_of}
use Rattle.lane_kernels.proofs.LaneLemmas.{take-zip2, drop-zip2}
use mir.Val.{SFits}
use mir.Syntax.{w64}
use Rattle.column.specs.Bits.{place, word_count}
use Rattle.lane_kernels.specs.Lanes.{value_at, test3}
use Rattle.lane_kernels.specs.Truth.{IsClearFrom}
use Rattle.lane_kernels.specs.Truth.{truth_at, IsTruth}

-- word k as a comparison writes it
pub record IsCompared (t : ℤ → Bool) (numbers : List ℤ) (valid truth known : List ℕ) (k : ℕ) : Type 0 where
  pub known_is : get_or known k 0 ≡ get_or valid k 0
  pub truth_is : get_or truth k 0 ≡ bit_and (get_or valid k 0) (mask_l (map t (chunk (64 * k) 64 numbers)))

pub place_of_mask : (t : ℤ → Bool) (numbers : List ℤ) (i : ℕ) → i < length numbers → bit_at (mask_l (map t (chunk (64 * (i / 64)) 64 numbers))) (i % 64) ≡ cond (t (get_or numbers i (pos 0))) 1 0
place_of_mask t numbers i h =
    let n : 64 * (i / 64) + i % 64 ≡ i = omega arith in
    let long : i % 64 < length (chunk (64 * (i / 64)) 64 numbers) = omega (arith, length-take 64 (drop (64 * (i / 64)) numbers), length-drop (64 * (i / 64)) numbers) in
    let at : get_or (chunk (64 * (i / 64)) 64 numbers) (i % 64) (pos 0) ≡ get_or numbers i (pos 0) = get_or-chunk (64 * (i / 64)) 64 numbers (i % 64) (pos 0) (omega arith) ∙ ap (λ j. get_or numbers j (pos 0)) n in
    bit_mask_l (map t (chunk (64 * (i / 64)) 64 numbers)) (i % 64) ∙ ap (λ b. cond b 1 0) (get_or-map t (chunk (64 * (i / 64)) 64 numbers) (i % 64) (pos 0) false long ∙ ap t at)

pub place_truth : (t : ℤ → Bool) (numbers : List ℤ) (valid truth known : List ℕ) (i : ℕ) → i < length numbers → IsCompared t numbers valid truth known (i / 64) → place truth i ≡ min (place valid i) (cond (t (get_or numbers i (pos 0))) 1 0)
place_truth t numbers valid truth known i h w =
    ap (λ n. bit_at n (i % 64)) w.truth_is ∙ bit_at_and _ _ _ ∙ ap (λ n. min (place valid i) n) (place_of_mask t numbers i h)

one_bit : (b : Bool) → (min 1 (cond b 1 0) == 1) ≡ b
one_bit true = refl
one_bit false = refl

truth_of_bits : (t : ℤ → ℤ → Bool) (x c : ℤ) (v : ℕ) → v < 2 → cond (v == 1) (Some (min v (cond (t x c) 1 0) == 1)) None ≡ test3 t (cond (v == 1) (Some x) None) (Some c)
truth_of_bits t x c zero h = refl
truth_of_bits t x c (suc zero) h = ap Some (one_bit (t x c))
truth_of_bits t x c (suc (suc n)) h = absurd (omega arith)

-- what a loop over all words has written
pub record AreCompared (t : ℤ → Bool) (numbers : List ℤ) (valid truth known : List ℕ) : Type 0 where
  pub words : length valid ≡ word_count (length numbers)
  pub truth_long : length truth ≡ length valid
  pub known_long : length known ≡ length valid
  pub each : (k : ℕ) → k < length valid → IsCompared t numbers valid truth known k

pub truth_at_compared : (t : ℤ → ℤ → Bool) (c : ℤ) (numbers : List ℤ) (valid truth known : List ℕ) → AreCompared (λ x. t x c) numbers valid truth known
    → (i : ℕ) → i < length numbers → truth_at truth known i ≡ test3 t (value_at numbers valid i) (Some c)
truth_at_compared t c numbers valid truth known a i h =
    let w : IsCompared (λ x. t x c) numbers valid truth known (i / 64) = a.each (i / 64) (omega (arith, a.words)) in
    let k : place known i ≡ place valid i = ap (λ n. bit_at n (i % 64)) w.known_is in
    let u : place truth i ≡ min (place valid i) (cond (t (get_or numbers i (pos 0)) c) 1 0) = place_truth (λ x. t x c) numbers valid truth known i h w in
    ap (λ n. cond (n == 1) (Some (place truth i == 1)) None) k ∙ ap (λ n. cond (place valid i == 1) (Some (n == 1)) None) u ∙ truth_of_bits t (get_or numbers i (pos 0)) c (place valid i) (bit_at-lt _ _)

place_past : (words : List ℕ) (i : ℕ) → length words ≤ i / 64 → place words i ≡ 0
place_past words i h = ap (λ n. bit_at n (i % 64)) (get_or_past words (i / 64) 0 h) ∙ bit_at-zero (i % 64)

pub IsTruth-compared : (t : ℤ → Bool) (numbers : List ℤ) (valid truth known : List ℕ) → AreCompared t numbers valid truth known → IsClearFrom (length numbers) valid → IsTruth (length numbers) truth known
IsTruth-compared t numbers valid truth known a clear = record {
  true_is_known = λ i. elim (cases_lt (i / 64) (length valid)) [
    | inl h ↦
        let w = a.each (i / 64) h in
        let k : place known i ≡ place valid i = ap (λ n. bit_at n (i % 64)) w.known_is in
        let u : place truth i ≡ min (place valid i) (bit_at (mask_l (map t (chunk (64 * (i / 64)) 64 numbers))) (i % 64)) = ap (λ n. bit_at n (i % 64)) w.truth_is ∙ bit_at_and _ _ _ in
        omega (arith, k, u)
    | inr h ↦ let z : place truth i ≡ 0 = place_past truth i (omega (arith, a.truth_long)) in omega (arith, z)
  ];
  past = λ i n. elim (cases_lt (i / 64) (length valid)) [
    | inl h ↦ ap (λ m. bit_at m (i % 64)) (a.each (i / 64) h).known_is ∙ clear i n
    | inr h ↦ place_past known i (omega (arith, a.known_long))
  ];
}

-- one more word
pub compared_more : (t : ℤ → Bool) (numbers : List ℤ) (valid truth known : List ℕ) (w : ℕ) (x : ℕ) → w < length truth → w < length known → ((k : ℕ) → k < w → IsCompared t numbers valid truth known k)
    → x ≡ mask_l (map t (chunk (64 * w) 64 numbers)) → (k : ℕ) → k < w + 1 → IsCompared t numbers valid (set truth w (bit_and (get_or valid w 0) x)) (set known w (get_or valid w 0)) k
compared_more t numbers valid truth known w x p q each e =
    let below : (k : ℕ) → k < w → IsCompared t numbers valid (set truth w (bit_and (get_or valid w 0) x)) (set known w (get_or valid w 0)) k =
    λ k l. record {
      known_is = get_or-set_other known w k _ 0 (λ s. omega (arith, s)) ∙ (each k l).known_is;
      truth_is = get_or-set_other truth w k _ 0 (λ s. omega (arith, s)) ∙ (each k l).truth_is;
    } in
    below_more _ w below (record {
      known_is = get_or-set_same known w _ 0 q;
      truth_is = get_or-set_same truth w _ 0 p ∙ ap (bit_and (get_or valid w 0)) e;
    })

-- the numbers of word w, as the loop cuts them
pub word_slice : (t : ℤ → Bool) (numbers : List ℤ) (w to x : ℕ) → to ≡ min (w * 64 + 64) (length numbers) → w * 64 ≤ length numbers
    → x ≡ mask_l (map t (take (to - w * 64) (drop (w * 64) numbers))) → x ≡ mask_l (map t (chunk (64 * w) 64 numbers))
word_slice t numbers w to x e h f =
    let n : to - w * 64 ≡ min 64 (length (drop (w * 64) numbers)) = omega (arith, length-drop (w * 64) numbers) in
    let m : w * 64 ≡ 64 * w = omega arith in
    f ∙ ap (λ i. mask_l (map t (take i (drop (w * 64) numbers)))) n ∙ ap (λ l. mask_l (map t l)) (take_min 64 (drop (w * 64) numbers)) ∙ ap (λ i. mask_l (map t (chunk i 64 numbers))) m

-- the number that is compared with, as a loop holds it
pub AreCompared-ends : (t : ℤ → ℤ → Bool) (c : ℤ) (numbers : List ℤ) (valid truth known : List ℕ) → SFits w64 c → AreCompared (λ x. t x (to_z w64 (of_z w64 c))) numbers valid truth known → AreCompared (λ x. t x c) numbers valid truth known
AreCompared-ends t c numbers valid truth known f a = let P : ℤ → Type 0 = λ d. AreCompared (λ x. t x d) numbers valid truth known in subst P (to_z-of_z w64 c f) a

-- ---- the truths of a column
pub value_seen : (vs : List (Option ℤ)) (numbers : List ℤ) (valid : List ℕ) (i : ℕ) → numbers ≡ numbers_of vs → bits (length vs) valid ≡ map is_some vs → i < length vs → value_at numbers valid i ≡ get_or vs i None
value_seen vs numbers valid i e f h =
    let v : (place valid i == 1) ≡ is_some (get_or vs i None) = sym (get_or-bits (length vs) valid i false h) ∙ ap (λ l. get_or l i false) f ∙ get_or-map is_some vs i None false h in
    let n : get_or numbers i (pos 0) ≡ unwrap_or (get_or vs i None) (pos 0) = ap (λ l. get_or l i (pos 0)) e ∙ get_or-map (λ w. unwrap_or w (pos 0)) vs i None (pos 0) h in
    (λ t. cond (v t) (Some (n t)) None) ∙ value_back (get_or vs i None)

test_compared : (how : Compare) (x y : Option ℤ) → test3 (test_of how) x y ≡ compared how x y
test_compared how None y = refl
test_compared how (Some x) None = refl
test_compared how (Some x) (Some y) = refl

pub length-numbers : (vs : List (Option ℤ)) (numbers : List ℤ) → numbers ≡ numbers_of vs → length numbers ≡ length vs
length-numbers vs numbers e = ap length e ∙ length-map vs (λ v. unwrap_or v (pos 0))

pub truths_const : (how : Compare) (vs : List (Option ℤ)) (c : ℤ) (numbers : List ℤ) (valid truth known : List ℕ) → numbers ≡ numbers_of vs → bits (length vs) valid ≡ map is_some vs
    → ((i : ℕ) → i < length numbers → truth_at truth known i ≡ test3 (test_of how) (value_at numbers valid i) (Some c)) → truths (length vs) truth known ≡ map (λ v. compared how v (Some c)) vs
truths_const how vs c numbers valid truth known e f each =
    sym (fill_by_all (truth_at truth known) (map (λ v. compared how v (Some c)) vs) (length vs) None (length-map vs (λ v. compared how v (Some c)))
    (λ i h. get_or-map (λ v. compared how v (Some c)) vs i None None h ∙ sym (test_compared how (get_or vs i None) (Some c)) ∙ ap (λ v. test3 (test_of how) v (Some c)) (sym (value_seen vs numbers valid i e f h))
    ∙ sym (each i (omega (arith, h, length-numbers vs numbers e)))))

pub truths_pairs : (how : Compare) (vs ws : List (Option ℤ)) (xs ys : List ℤ) (xv yv truth known : List ℕ) → length ws ≡ length vs → xs ≡ numbers_of vs → ys ≡ numbers_of ws
    → bits (length vs) xv ≡ map is_some vs → bits (length ws) yv ≡ map is_some ws
    → ((i : ℕ) → i < length xs → truth_at truth known i ≡ test3 (test_of how) (value_at xs xv i) (value_at ys yv i)) → truths (length vs) truth known ≡ zip2 (compared how) vs ws
truths_pairs how vs ws xs ys xv yv truth known same e f g k each =
    sym (fill_by_all (truth_at truth known) (zip2 (compared how) vs ws) (length vs) None (length-zip2 (compared how) vs ws (sym same))
    (λ i h. let j : i < length ws = omega (arith, h, same) in
    get_or-zip2 (compared how) vs ws i None None None h j ∙ sym (test_compared how (get_or vs i None) (get_or ws i None))
    ∙ (λ t. test3 (test_of how) (sym (value_seen vs xs xv i e g h) t) (sym (value_seen ws ys yv i f k j) t))
    ∙ sym (each i (omega (arith, h, length-numbers vs xs e)))))

-- ---- two columns
-- word k as a comparison of pairs writes it
pub record IsPaired (bs : List Bool) (xv yv truth known : List ℕ) (k : ℕ) : Type 0 where
  pub known_is : get_or known k 0 ≡ bit_and (get_or xv k 0) (get_or yv k 0)
  pub truth_is : get_or truth k 0 ≡ bit_and (bit_and (get_or xv k 0) (get_or yv k 0)) (mask_l (chunk (64 * k) 64 bs))

pub place_of_bits : (bs : List Bool) (i : ℕ) → bit_at (mask_l (chunk (64 * (i / 64)) 64 bs)) (i % 64) ≡ cond (get_or bs i false) 1 0
place_of_bits bs i =
    let n : 64 * (i / 64) + i % 64 ≡ i = omega arith in
    bit_mask_l (chunk (64 * (i / 64)) 64 bs) (i % 64) ∙ ap (λ b. cond b 1 0) (get_or-chunk (64 * (i / 64)) 64 bs (i % 64) false (omega arith) ∙ ap (λ j. get_or bs j false) n)

pub place_known : (bs : List Bool) (xv yv truth known : List ℕ) (i : ℕ) → IsPaired bs xv yv truth known (i / 64) → place known i ≡ min (place xv i) (place yv i)
place_known bs xv yv truth known i w = ap (λ n. bit_at n (i % 64)) w.known_is ∙ bit_at_and _ _ _

pub place_paired : (bs : List Bool) (xv yv truth known : List ℕ) (i : ℕ) → IsPaired bs xv yv truth known (i / 64) → place truth i ≡ min (min (place xv i) (place yv i)) (cond (get_or bs i false) 1 0)
place_paired bs xv yv truth known i w =
    ap (λ n. bit_at n (i % 64)) w.truth_is ∙ bit_at_and _ _ _ ∙ (λ t. min (bit_at_and (get_or xv (i / 64) 0) (get_or yv (i / 64) 0) (i % 64) t) (place_of_bits bs i t))

pair_truth : (t : ℤ → ℤ → Bool) (x y : ℤ) (a b : ℕ) → a < 2 → b < 2
    → cond (min a b == 1) (Some (min (min a b) (cond (t x y) 1 0) == 1)) None ≡ test3 t (cond (a == 1) (Some x) None) (cond (b == 1) (Some y) None)
pair_truth t x y zero zero p q = refl
pair_truth t x y zero (suc zero) p q = refl
pair_truth t x y (suc zero) zero p q = refl
pair_truth t x y (suc zero) (suc zero) p q = ap Some (one_bit (t x y))
pair_truth t x y (suc (suc a)) b p q = absurd (omega arith)
pair_truth t x y zero (suc (suc b)) p q = absurd (omega arith)
pair_truth t x y (suc zero) (suc (suc b)) p q = absurd (omega arith)

pub record ArePaired (bs : List Bool) (n : ℕ) (xv yv truth known : List ℕ) : Type 0 where
  pub words : length xv ≡ word_count n
  pub truth_long : length truth ≡ length xv
  pub known_long : length known ≡ length xv
  pub each : (k : ℕ) → k < length xv → IsPaired bs xv yv truth known k

pub truth_at_paired : (t : ℤ → ℤ → Bool) (xs ys : List ℤ) (xv yv truth known : List ℕ) → length ys ≡ length xs → ArePaired (zip2 t xs ys) (length xs) xv yv truth known
    → (i : ℕ) → i < length xs → truth_at truth known i ≡ test3 t (value_at xs xv i) (value_at ys yv i)
truth_at_paired t xs ys xv yv truth known same a i h =
    let w = a.each (i / 64) (omega (arith, a.words)) in
    let k : place known i ≡ min (place xv i) (place yv i) = place_known (zip2 t xs ys) xv yv truth known i w in
    let u : place truth i ≡ min (min (place xv i) (place yv i)) (cond (t (get_or xs i (pos 0)) (get_or ys i (pos 0))) 1 0) =
    place_paired (zip2 t xs ys) xv yv truth known i w ∙ ap (λ b. min (min (place xv i) (place yv i)) (cond b 1 0)) (get_or-zip2 t xs ys i (pos 0) (pos 0) false h (omega (arith, h, same))) in
    (λ j. cond (k j == 1) (Some (u j == 1)) None) ∙ pair_truth t (get_or xs i (pos 0)) (get_or ys i (pos 0)) (place xv i) (place yv i) (bit_at-lt _ _) (bit_at-lt _ _)

pub IsTruth-paired : (bs : List Bool) (n : ℕ) (xv yv truth known : List ℕ) → ArePaired bs n xv yv truth known → IsClearFrom n xv → IsTruth n truth known
IsTruth-paired bs n xv yv truth known a clear = record {
  true_is_known = λ i. elim (cases_lt (i / 64) (length xv)) [
    | inl h ↦
        let w = a.each (i / 64) h in
        let k : place known i ≡ min (place xv i) (place yv i) = place_known bs xv yv truth known i w in
        let u : place truth i ≡ min (min (place xv i) (place yv i)) (cond (get_or bs i false) 1 0) = place_paired bs xv yv truth known i w in
        omega (arith, k, u)
    | inr h ↦ let z : place truth i ≡ 0 = place_past truth i (omega (arith, a.truth_long)) in omega (arith, z)
  ];
  past = λ i m. elim (cases_lt (i / 64) (length xv)) [
    | inl h ↦ let k : place known i ≡ min (place xv i) (place yv i) = place_known bs xv yv truth known i (a.each (i / 64) h) in omega (arith, k, clear i m)
    | inr h ↦ place_past known i (omega (arith, a.known_long))
  ];
}

pub paired_more : (bs : List Bool) (xv yv truth known : List ℕ) (w x : ℕ) → w < length truth → w < length known → ((k : ℕ) → k < w → IsPaired bs xv yv truth known k)
    → x ≡ mask_l (chunk (64 * w) 64 bs) → (k : ℕ) → k < w + 1
    → IsPaired bs xv yv (set truth w (bit_and (bit_and (get_or xv w 0) (get_or yv w 0)) x)) (set known w (bit_and (get_or xv w 0) (get_or yv w 0))) k
paired_more bs xv yv truth known w x p q each e =
    let both = bit_and (get_or xv w 0) (get_or yv w 0) in
    below_more _ w
    (λ k l. record {
      known_is = get_or-set_other known w k _ 0 (λ s. omega (arith, s)) ∙ (each k l).known_is;
      truth_is = get_or-set_other truth w k _ 0 (λ s. omega (arith, s)) ∙ (each k l).truth_is;
    })
    (record {
      known_is = get_or-set_same known w _ 0 q;
      truth_is = get_or-set_same truth w _ 0 p ∙ ap (bit_and (bit_and (get_or xv w 0) (get_or yv w 0))) e;
    })

pub bits_slice : (bs : List Bool) (w to x : ℕ) → to ≡ min (w * 64 + 64) (length bs) → w * 64 ≤ length bs → x ≡ mask_l (take (to - w * 64) (drop (w * 64) bs)) → x ≡ mask_l (chunk (64 * w) 64 bs)
bits_slice bs w to x e h f =
    let n : to - w * 64 ≡ min 64 (length (drop (w * 64) bs)) = omega (arith, length-drop (w * 64) bs) in
    let m : w * 64 ≡ 64 * w = omega arith in
    f ∙ ap (λ i. mask_l (take i (drop (w * 64) bs))) n ∙ ap mask_l (take_min 64 (drop (w * 64) bs)) ∙ ap (λ i. mask_l (chunk i 64 bs)) m

pub pair_slice : (t : ℤ → ℤ → Bool) (xs ys : List ℤ) (w to x : ℕ) → length ys ≡ length xs → to ≡ min (w * 64 + 64) (length xs) → w * 64 ≤ length xs
    → x ≡ mask_l (zip2 t (take (to - w * 64) (drop (w * 64) xs)) (take (to - w * 64) (drop (w * 64) ys))) → x ≡ mask_l (chunk (64 * w) 64 (zip2 t xs ys))
pair_slice t xs ys w to x same e h f =
    let n : length (zip2 t xs ys) ≡ length xs = length-zip2 t xs ys (sym same) in
    bits_slice (zip2 t xs ys) w to x (e ∙ ap (min (w * 64 + 64)) (sym n)) (omega (arith, h, n))
    (f ∙ ap mask_l (take-zip2 t (to - w * 64) (drop (w * 64) xs) (drop (w * 64) ys) ∙ ap (take (to - w * 64)) (drop-zip2 t (w * 64) xs ys)))

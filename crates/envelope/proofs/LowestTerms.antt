-- Euclid's rule, and that equal fractions have the same lowest terms.
use Rattle.std.proofs.Common.{ℕ, ◌+◌, ◌*◌, ◌/◌, ◌%◌, ◌<◌, ◌≡◌, refl, sym, ap, ◌∙◌, subst, subst₂, ap₂, arith, suc, zero}
use Rattle.std.specs.Int.{IsGcd, ◌∣◌}
use Rattle.std.proofs.Math.Nat.{mod-lt, mod-eq_of_lt, mul-add-mod_self_left, mul-lt-mul_of_pos_right, div-mul_cancel, div-add-mod', pos_of_dvd_of_pos, dvd-mul_right}
use Rattle.std.proofs.lemmas.Nat.Gcd.{IsGcd-from_zero, IsGcd-from_mod, same_from_IsGcd}
use Rattle.envelope.specs.Fraction.{Fraction, fraction, denominator}
use Rattle.envelope.specs.Equal.{SameNumber}
use Rattle.envelope.specs.FractionLaws.{eq_unscaled, denominator_of_fraction}
use Rattle.envelope.specs.LowestTerms.{euclid, common_divisor, lowest_terms}

mod_scaled : (a b k : ℕ) → 0 < b → 0 < k → (a * k) % (b * k) ≡ (a % b) * k
mod_scaled a b k p q =
    let l : a % b * k < b * k = mul-lt-mul_of_pos_right (mod-lt a p) q in
    let e : a * k ≡ (b * k) * (a / b) + a % b * k = (let d = div-add-mod' a b in ap (λ w. w * k) (sym d) ∙ (let f : (a / b * b + a % b) * k ≡ (b * k) * (a / b) + a % b * k = omega arith in f)) in
    ap (λ w. w % (b * k)) e ∙ mul-add-mod_self_left (b * k) (a / b) (a % b * k) ∙ mod-eq_of_lt l

pub euclid_scaled : (f a b k : ℕ) → b < f → 0 < k → IsGcd (a * k) (b * k) (euclid f a b * k)
euclid_scaled zero a b k h p = absurd (omega arith)
euclid_scaled (suc f) a zero k h p = IsGcd-from_zero (a * k) (0 * k) (omega arith)
euclid_scaled (suc f) a (suc b) k h p =
    let l : a % suc b < suc b = mod-lt a (omega arith) in
    let ih = euclid_scaled f (suc b) (a % suc b) k (omega arith) p in
    IsGcd-from_mod (a * k) (suc b * k) _ (subst (λ w. IsGcd (suc b * k) w (euclid f (suc b) (a % suc b) * k)) (sym (mod_scaled a (suc b) k (omega arith) p)) ih)

pub common_scaled : (x : Fraction) (k : ℕ) → 0 < k → IsGcd (x.numerator * k) (denominator x * k) (common_divisor x * k)
unfolding common_divisor
common_scaled x k p = euclid_scaled (suc (denominator x)) x.numerator (denominator x) k (omega arith) p

pub common_is : (x : Fraction) → IsGcd x.numerator (denominator x) (common_divisor x)
common_is x =
    let e : (n : ℕ) → n * 1 ≡ n = λ n. omega arith in
    let g = common_scaled x 1 (omega arith) in
    subst (λ w. IsGcd w (denominator x) (common_divisor x)) (e x.numerator) (subst₂ (λ v w. IsGcd (x.numerator * 1) v w) (e (denominator x)) (e (common_divisor x)) g)

pub common_pos : (x : Fraction) → 0 < common_divisor x
common_pos x = pos_of_dvd_of_pos ((common_is x).1) (omega arith)

times_pos : (g h : ℕ) → 0 < g → 0 < h → 0 < g * h
times_pos g h p q = omega (arith, mul-lt-mul_of_pos_right p q)

-- the parts of the one's lowest terms are those of the other's
same_parts : (g h d e d' e' : ℕ) → 0 < g → 0 < h → d' * g ≡ d → e' * h ≡ e → g * e ≡ h * d → d' ≡ e'
same_parts g h d e d' e' p q u v w =
    let a : d' * (g * h) ≡ e' * (g * h) = (let u' = ap (λ z. h * z) u in let v' = ap (λ z. g * z) v in omega (arith, u', v', w)) in
    eq_unscaled d' e' (g * h) (times_pos g h p q) a

pub alike_parts : (x y : Fraction) → SameNumber x y → (x.numerator / common_divisor x ≡ y.numerator / common_divisor y) × (denominator x / common_divisor x ≡ denominator y / common_divisor y)
alike_parts x y s =
    let a = common_scaled x (denominator y) (omega arith) in
    let b = common_scaled y (denominator x) (omega arith) in
    let b' : IsGcd (x.numerator * denominator y) (denominator x * denominator y) (common_divisor y * denominator x) = subst₂ (λ v w. IsGcd v w (common_divisor y * denominator x)) (sym s) (let w : denominator y * denominator x ≡ denominator x * denominator y = omega arith in w) b in
    let e : common_divisor x * denominator y ≡ common_divisor y * denominator x = same_from_IsGcd _ _ _ _ a b' in
    let p = common_pos x in
    let q = common_pos y in
    let dx : denominator x / common_divisor x * common_divisor x ≡ denominator x = div-mul_cancel (common_divisor x) ((common_is x).1) in
    let dy : denominator y / common_divisor y * common_divisor y ≡ denominator y = div-mul_cancel (common_divisor y) ((common_is y).1) in
    let nx : x.numerator / common_divisor x * common_divisor x ≡ x.numerator = div-mul_cancel (common_divisor x) ((common_is x).0) in
    let ny : y.numerator / common_divisor y * common_divisor y ≡ y.numerator = div-mul_cancel (common_divisor y) ((common_is y).0) in
    let d = same_parts (common_divisor x) (common_divisor y) (denominator x) (denominator y) (denominator x / common_divisor x) (denominator y / common_divisor y) p q dx dy e in
    let e' : common_divisor x * y.numerator * denominator x ≡ common_divisor y * x.numerator * denominator x =
    (let s' = ap (λ w. common_divisor x * w) s in let f = ap (λ w. w * x.numerator) e in omega (arith, s', f)) in
    let n = same_parts (common_divisor x) (common_divisor y) x.numerator y.numerator (x.numerator / common_divisor x) (y.numerator / common_divisor y) p q nx ny (eq_unscaled (common_divisor x * y.numerator) (common_divisor y * x.numerator) (denominator x) (omega arith) e') in
    (n, d)

pub one_form : (x y : Fraction) → SameNumber x y → lowest_terms x ≡ lowest_terms y
unfolding lowest_terms
one_form x y s = (let p = alike_parts x y s in ap₂ fraction p.0 p.1)

-- a positive number, divided by one that divides it
quotient_pos : (n g : ℕ) → g ∣ n → 0 < n → 0 < n / g
quotient_pos n g h p =
    let e : n / g * g ≡ n = div-mul_cancel g h in
    pos_of_dvd_of_pos (subst (λ w. n / g ∣ w) e (dvd-mul_right (n / g) g)) p

lowest_denominator : (x : Fraction) → denominator (lowest_terms x) ≡ denominator x / common_divisor x
unfolding lowest_terms
lowest_denominator x =
    let p = quotient_pos (denominator x) (common_divisor x) ((common_is x).1) (omega arith) in
    denominator_of_fraction (denominator x / common_divisor x) p

lowest_numerator : (x : Fraction) → (lowest_terms x).numerator ≡ x.numerator / common_divisor x
unfolding lowest_terms
lowest_numerator x = refl

pub same_number : (x : Fraction) → SameNumber (lowest_terms x) x
same_number x =
    let g = common_divisor x in
    let n = x.numerator / g in
    let d = denominator x / g in
    let dx : d * g ≡ denominator x = div-mul_cancel g ((common_is x).1) in
    let nx : n * g ≡ x.numerator = div-mul_cancel g ((common_is x).0) in
    let e : n * denominator x ≡ x.numerator * d = ap (λ w. n * w) (sym dx) ∙ (let w : n * (d * g) ≡ n * g * d = omega arith in w) ∙ ap (λ w. w * d) nx in
    ap (λ w. w * denominator x) (lowest_numerator x) ∙ e ∙ ap (λ w. x.numerator * w) (sym (lowest_denominator x))

-- nothing is left to divide both parts
pub lowest_common : (x : Fraction) → common_divisor (lowest_terms x) ≡ 1
lowest_common x =
    let g = common_divisor x in
    let y = lowest_terms x in
    let dy : denominator y * g ≡ denominator x = ap (λ w. w * g) (lowest_denominator x) ∙ div-mul_cancel g ((common_is x).1) in
    let ny : y.numerator * g ≡ x.numerator = ap (λ w. w * g) (lowest_numerator x) ∙ div-mul_cancel g ((common_is x).0) in
    let b = common_scaled y g (common_pos x) in
    let b' : IsGcd x.numerator (denominator x) (common_divisor y * g) = subst₂ (λ v w. IsGcd v w (common_divisor y * g)) ny dy b in
    let c : common_divisor y * g ≡ 1 * g = same_from_IsGcd _ _ _ _ b' (common_is x) ∙ (let w : g ≡ 1 * g = omega arith in w) in
    eq_unscaled (common_divisor y) 1 g (common_pos x) c

-- no number but one divides both parts
pub in_lowest_terms : (x : Fraction) → IsGcd (lowest_terms x).numerator (denominator (lowest_terms x)) 1
in_lowest_terms x = subst (λ w. IsGcd (lowest_terms x).numerator (denominator (lowest_terms x)) w) (lowest_common x) (common_is (lowest_terms x))

-- what a program makes of two parts and their greatest common divisor
pub record MadeLowest (n d g : ℕ) : Type 0 where
  pub divisor : 0 < g
  pub value : fraction (n / g) (d / g) ≡ lowest_terms (fraction n d)
  pub positive : 0 < d / g
  pub common : common_divisor (fraction (n / g) (d / g)) ≡ 1

pub made_lowest : (n d g : ℕ) → 0 < d → IsGcd n d g → MadeLowest n d g
unfolding lowest_terms
made_lowest n d g p h =
    let x = fraction n d in
    let e : denominator x ≡ d = denominator_of_fraction d p in
    let c : common_divisor x ≡ g = same_from_IsGcd n d _ g (subst (λ w. IsGcd n w (common_divisor x)) e (common_is x)) h in
    let v : fraction (n / g) (d / g) ≡ lowest_terms x = subst₂ (λ v w. fraction (n / v) (w / v) ≡ lowest_terms x) c e refl in
    record {
      divisor = pos_of_dvd_of_pos (h.1) p;
      value = v;
      positive = quotient_pos d g (h.1) p;
      common = ap common_divisor v ∙ lowest_common x;
    }

-- parts with no common divisor
pub parts_lowest : (n d : ℕ) → 0 < d → common_divisor (fraction n d) ≡ 1 → IsGcd n d 1
parts_lowest n d p h = subst₂ (λ v w. IsGcd n v w) (denominator_of_fraction d p) h (common_is (fraction n d))

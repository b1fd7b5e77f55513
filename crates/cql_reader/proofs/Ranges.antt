-- A number that is cut off outside each range is in the same ranges.
use Rattle.std.proofs.Common.{◌≡◌, ℕ, zero, suc, ◌<◌, ◌≤◌, Bool, true, false, not, ◌&&◌, ℤ, pos, negsuc, neg_ℤ, int_lt, nat_lt, nat_abs, min, refl, sym, ap, ◌∙◌, arith, inl, inr}
use Rattle.std.proofs.lemmas.Bool.{cases_lt, ltb-true, lt-ltb, le-ltb, and_parts, false≢true}
use Rattle.cql_reader.specs.Scanning.{capped}
use Rattle.cql_reader.specs.Grammar.{in_span, in_step, in_rows, in_stream}

pub capped_negative : (n : ℕ) → neg_ℤ (pos (min n 2199023255552)) ≡ capped (neg_ℤ (pos n))
unfolding capped
capped_negative zero = refl
capped_negative (suc m) =
    let e : min (suc m) 2199023255552 ≡ suc (min m 2199023255551) = omega arith in ap (λ (v : ℕ). neg_ℤ (pos v)) e

pub capped_positive : (n : ℕ) → pos (min n 2199023255552) ≡ capped (pos n)
unfolding capped
capped_positive n = refl

pub abs_negative : (n : ℕ) → nat_abs (neg_ℤ (pos n)) ≡ n
abs_negative zero = refl
abs_negative (suc n) = refl

and_false : (a b : Bool) → b ≡ false → (a && b) ≡ false
and_false true b h = h
and_false false b h = refl

-- a range of numbers
abbrev between : ℤ → ℤ → ℤ → Bool
between low high z = not (int_lt z low) && int_lt z high

-- the upper end is below the cut
above_cut : (low : ℤ) (high n : ℕ) → high ≤ 2199023255552 → between low (pos high) (pos (min n 2199023255552)) ≡ between low (pos high) (pos n)
above_cut low high n h = elim (cases_lt n 2199023255552) [
  | inl l ↦ (let e : min n 2199023255552 ≡ n = omega arith in ap (λ (v : ℕ). between low (pos high) (pos v)) e)
  | inr g ↦ and_false (not (int_lt (pos (min n 2199023255552)) low)) (nat_lt (min n 2199023255552) high) (le-ltb (min n 2199023255552) high (omega arith))
      ∙ sym (and_false (not (int_lt (pos n) low)) (nat_lt n high) (le-ltb n high (omega arith)))
]

pub span_capped : (z : ℤ) → in_span (capped z) ≡ in_span z
unfolding capped
span_capped (pos n) = above_cut (pos 0) 1099511627777 n (omega arith)
span_capped (negsuc n) = refl

pub step_capped : (z : ℤ) → in_step (capped z) ≡ in_step z
unfolding capped
step_capped (pos n) = above_cut (pos 1) 1099511627777 n (omega arith)
step_capped (negsuc n) = refl

not_below_one : (n : ℕ) → not (nat_lt n 1) ≡ true → 0 < n
not_below_one zero h = absurd (false≢true h)
not_below_one (suc n) h = omega arith

-- a step is at least 1, cut off or not
pub step_some : (z : ℤ) → in_step z ≡ true → 0 < min (nat_abs z) 2199023255552
step_some (pos n) h = let l = not_below_one n (and_parts (not (nat_lt n 1)) (nat_lt n 1099511627777) h).0 in omega (arith, l)
step_some (negsuc n) h = absurd (false≢true h)

pub rows_capped : (z : ℤ) → in_rows (capped z) ≡ in_rows z
unfolding capped
rows_capped (pos n) = above_cut (pos 1) 65537 n (omega arith)
rows_capped (negsuc n) = refl

pub stream_capped : (z : ℤ) → in_stream (capped z) ≡ in_stream z
unfolding capped
stream_capped (pos n) = above_cut (negsuc 1099511627774) 1099511627776 n (omega arith)
stream_capped (negsuc n) = elim (cases_lt n 2199023255551) [
  | inl l ↦ (let e : min n 2199023255551 ≡ n = omega arith in ap (λ (v : ℕ). in_stream (negsuc v)) e)
  | inr g ↦ ap (λ (b : Bool). not b && true) (lt-ltb 1099511627774 (min n 2199023255551) (omega arith))
      ∙ sym (ap (λ (b : Bool). not b && true) (lt-ltb 1099511627774 n (omega arith)))
]

pub stream_kept : (z : ℤ) → in_stream z ≡ true → capped z ≡ z
unfolding capped
stream_kept (pos n) h =
    let l : n < 1099511627776 = ltb-true n 1099511627776 (and_parts (not (int_lt (pos n) (negsuc 1099511627774))) (nat_lt n 1099511627776) h).1 in
    let e : min n 2199023255552 ≡ n = omega arith in
    ap pos e
stream_kept (negsuc n) h = elim (cases_lt 1099511627774 n) [
  | inl l ↦ absurd (false≢true (sym (ap (λ (b : Bool). not b && true) (lt-ltb 1099511627774 n l)) ∙ h))
  | inr g ↦ (let e : min n 2199023255551 ≡ n = omega arith in ap negsuc e)
]

-- a test of the lower end, then one of the upper
pub tested_above : (low high m z : ℤ) → m ≡ capped z → between low high (capped z) ≡ between low high z → int_lt m low ≡ false → int_lt m high ≡ between low high z
tested_above low high m z e k h = sym (ap (λ (b : Bool). not b && int_lt m high) h) ∙ ap (λ (v : ℤ). between low high v) e ∙ k

pub tested_below : (low high m z : ℤ) → m ≡ capped z → between low high (capped z) ≡ between low high z → int_lt m low ≡ true → not (int_lt m low) ≡ between low high z
tested_below low high m z e k h = ap not h ∙ sym (ap (λ (b : Bool). not b && int_lt m high) h) ∙ ap (λ (v : ℤ). between low high v) e ∙ k

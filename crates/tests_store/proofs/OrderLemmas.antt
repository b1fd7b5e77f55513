-- Rows in order, one more at a time.
use Rattle.std.proofs.Common.{◌≡◌, ℕ, ◌+◌, ◌-◌, ◌<◌, ◌≤◌, List, get_or, ap, arith, ⊎_elim}
use Rattle.std.proofs.lemmas.Bool.{cases_lt}

-- the first k instants never fall, and at those that are equal the numbers rise
pub record AreRising (instants numbers : List ℕ) (k : ℕ) : Type 0 where
  pub rising : (i j : ℕ) → i ≤ j → j < k → get_or instants i 0 ≤ get_or instants j 0
  pub apart : (i j : ℕ) → i < j → j < k → get_or instants i 0 ≡ get_or instants j 0 → get_or numbers i 0 < get_or numbers j 0

pub rising_first : (instants numbers : List ℕ) → AreRising instants numbers 1
rising_first instants numbers = record {
  rising = λ i j le lt. let e : i ≡ j = omega arith in let f : get_or instants i 0 ≡ get_or instants j 0 = ap (λ x. get_or instants x 0) e in omega arith;
  apart = λ i j lt u e. absurd (omega (arith, lt, u));
}

pub rising_more : (instants numbers : List ℕ) (k : ℕ) → AreRising instants numbers k → 1 ≤ k → get_or instants (k - 1) 0 ≤ get_or instants k 0
    → (get_or instants (k - 1) 0 ≡ get_or instants k 0 → get_or numbers (k - 1) 0 < get_or numbers k 0) → AreRising instants numbers (k + 1)
rising_more instants numbers k h some le later = record {
  rising = λ i j l u.
      ⊎_elim
      (λ (lt : j < k). h.rising i j l lt)
      (λ (ge : k ≤ j).
      let e : j ≡ k = omega arith in
      ⊎_elim
      (λ (lt : i < k). let a = h.rising i (k - 1) (omega arith) (omega arith) in let f : get_or instants j 0 ≡ get_or instants k 0 = ap (λ x. get_or instants x 0) e in omega arith)
      (λ (same : k ≤ i). let e2 : i ≡ j = omega arith in let f : get_or instants i 0 ≡ get_or instants j 0 = ap (λ x. get_or instants x 0) e2 in omega arith)
      (cases_lt i k))
      (cases_lt j k);
  apart = λ i j l u same.
      ⊎_elim
      (λ (lt : j < k). h.apart i j l lt same)
      (λ (ge : k ≤ j).
      let e : j ≡ k = omega arith in
      let f : get_or instants j 0 ≡ get_or instants k 0 = ap (λ x. get_or instants x 0) e in
      let g : get_or numbers j 0 ≡ get_or numbers k 0 = ap (λ x. get_or numbers x 0) e in
      let a = h.rising i (k - 1) (omega arith) (omega arith) in
      let b : get_or instants (k - 1) 0 ≡ get_or instants k 0 = omega arith in
      let c = later b in
      ⊎_elim
      (λ (lt : i < k - 1). let d = h.apart i (k - 1) lt (omega arith) (omega arith) in omega arith)
      (λ (last : k - 1 ≤ i). let e2 : i ≡ k - 1 = omega arith in let g2 : get_or numbers i 0 ≡ get_or numbers (k - 1) 0 = ap (λ x. get_or numbers x 0) e2 in omega arith)
      (cases_lt i (k - 1)))
      (cases_lt j k);
}

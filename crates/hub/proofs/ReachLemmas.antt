-- What the reach of a seat means.
use Rattle.std.proofs.Common.{ℕ, ◌+◌, ◌≤◌, ◌<◌, ◌≡◌, List, [], ◌∷◌, arith, ◌⊎◌, inl, inr, suc, zero, refl}
use Rattle.std.specs.Prelude.{All, Some, slice_get}
use Rattle.std.proofs.lemmas.List.Elements.{All-cons, All-nil}
use Rattle.std.proofs.lemmas.Bool.{cases_lt}
use Rattle.histories.specs.Histories.{Told}
use Rattle.hub.specs.Seats.{PlainSeat, held, reach}

all_below : (rs : List Told) (m : ℕ) → held rs ≤ m → All (λ (r : Told). r.number < m) rs
all_below [] m h = All-nil _
all_below (x ∷ rs) m h =
    let here : x.number < m = omega (arith, h) in
    All-cons (λ (r : Told). r.number < m) x rs here (all_below rs m (omega (arith, h)))

some_reaches : (rs : List Told) (n : ℕ) → n < held rs → (k : ℕ) × (r : Told) × (slice_get rs k ≡ Some r) × (n ≤ r.number)
some_reaches [] n h = absurd (omega (arith, h))
some_reaches (x ∷ rs) n h =
    elim (cases_lt n (x.number + 1)) [
      | inl a ↦ (zero, x, refl, omega (arith, a))
      | inr b ↦ (let t = some_reaches rs n (omega (arith, h, b)) in (suc t.0, t.1, t.2, t.3))
    ]

pub reach_above : (s : PlainSeat) → All (λ (r : Told). r.number < reach s) s.receipts × (s.learnt ≤ reach s)
reach_above s = (all_below s.receipts (reach s) (omega arith), omega arith)

pub settled_below : (s : PlainSeat) → s.settled.until ≤ reach s
settled_below s = omega arith

pub reached : (s : PlainSeat) (n : ℕ) → n < reach s
    → ((k : ℕ) × (r : Told) × (slice_get s.receipts k ≡ Some r) × (n ≤ r.number)) ⊎ ((n < s.learnt) ⊎ (n < s.settled.until))
reached s n h =
    elim (cases_lt n s.learnt) [
      | inl a ↦ inr (inl a)
      | inr b ↦
          elim (cases_lt n s.settled.until) [
            | inl a ↦ inr (inr a)
            | inr d ↦ inl (some_reaches s.receipts n (omega (arith, h, b, d)))
          ]
    ]

-- The points of measures that are in range are a chart.
use Rattle.std.proofs.Common.{◌≡◌, ℕ, zero, suc, ◌+◌, ◌-◌, ◌*◌, ◌<◌, ◌≤◌, List, [], ◌∷◌, length, refl, ap, ◌∙◌, arith}
use Rattle.std.specs.List.{AllByRecursion}
use Rattle.envelope.specs.declared.chart.Point.{Point}
use Rattle.envelope.specs.Chart.{at, full_size, IsChart}
use Rattle.plan.specs.Paths.{points_after}
use Rattle.plan.specs.declared.chart.Measure.{Measure}

-- a cost and a size in range
pub record InRange (m : Measure) : Type 0 where
  pub costs : 0 < m.cost
  pub small : m.cost ≤ 1000000
  pub size : m.size ≤ 1000000

abbrev pub start : ℕ → ℕ → Point
start t s = record { t = t; s = s }

abbrev pub last_size : ℕ → List Measure → ℕ
last_size s [] = s
last_size s (m ∷ ms) = last_size m.size ms

points-length : (t : ℕ) (ms : List Measure) → length (points_after t ms) ≡ length ms
points-length t [] = refl
points-length t (m ∷ ms) = ap suc (points-length (t + m.cost) ms)

times : (t s : ℕ) (ms : List Measure) → AllByRecursion InRange ms → (i : ℕ) → i ≤ length ms → (at (start t s ∷ points_after t ms) i).t ≤ t + 1000000 * i
times t s ms g zero l = let h : t ≤ t + 1000000 * 0 = omega arith in h
times t s [] g (suc i) l = absurd (omega (arith, l))
times t s (m ∷ ms) g (suc i) l =
    let h : (at (start (t + m.cost) m.size ∷ points_after (t + m.cost) ms) i).t ≤ (t + m.cost) + 1000000 * i = times (t + m.cost) m.size ms g.1 i (omega (arith, l)) in
    let k : (at (start (t + m.cost) m.size ∷ points_after (t + m.cost) ms) i).t ≤ t + 1000000 * suc i = omega (arith, h, g.0.small) in k

grows : (t s : ℕ) (ms : List Measure) → AllByRecursion InRange ms → (i : ℕ) → i < length ms
    → (at (start t s ∷ points_after t ms) i).t < (at (start t s ∷ points_after t ms) (suc i)).t
grows t s [] g i l = absurd (omega (arith, l))
grows t s (m ∷ ms) g zero l = let h : t < t + m.cost = omega (arith, g.0.costs) in h
grows t s (m ∷ ms) g (suc i) l = grows (t + m.cost) m.size ms g.1 i (omega (arith, l))

sizes : (t s : ℕ) (ms : List Measure) → s ≤ 1000000 → AllByRecursion InRange ms → (i : ℕ) → i ≤ length ms → (at (start t s ∷ points_after t ms) i).s ≤ 1000000
sizes t s ms h g zero l = h
sizes t s [] h g (suc i) l = absurd (omega (arith, l))
sizes t s (m ∷ ms) h g (suc i) l = sizes (t + m.cost) m.size ms g.0.size g.1 i (omega (arith, l))

ends : (t s : ℕ) (ms : List Measure) → (at (start t s ∷ points_after t ms) (length ms)).s ≡ last_size s ms
ends t s [] = refl
ends t s (m ∷ ms) = ends (t + m.cost) m.size ms

pub chart_of_measures : (ms : List Measure) → 0 < length ms → length ms ≤ 1000000 → AllByRecursion InRange ms → last_size full_size ms ≡ 0
    → IsChart (start 0 full_size ∷ points_after 0 ms)
chart_of_measures ms some few g e =
    let all : List Point = start 0 full_size ∷ points_after 0 ms in
    let long : length all ≡ suc (length ms) = ap suc (points-length 0 ms) in
    let last : length all - 1 ≡ length ms = omega (arith, long) in
    record {
      long = omega (arith, long, some);
      begins = refl;
      whole = refl;
      ends = ap (λ i. (at all i).s) last ∙ ends 0 full_size ms ∙ e;
      grows = λ i l. grows 0 full_size ms g i (omega (arith, l, long));
      times = λ i l. let h : (at all i).t ≤ 0 + 1000000 * i = times 0 full_size ms g i (omega (arith, l, long)) in
          let k : (at all i).t ≤ 1099511627776 = omega (arith, h, l, long, few) in k;
      sizes = λ i l. sizes 0 full_size ms (omega arith) g i (omega (arith, l, long));
    }

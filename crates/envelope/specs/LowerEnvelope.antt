-- TO BELIEVE: the theorem rests on these definitions, and no proof can check them.
-- Lower envelopes of a chart, and the slopes that are read off
-- one (Chain: Babcock, Babu, Datar and Motwani, SIGMOD 2003).
use Rattle.std.specs.Prelude.{ℕ, ◌-◌, ◌<◌, ◌≤◌, ◌≡◌, cond, nat_le, List, [], ◌∷◌, length, map, drop}
use Rattle.std.specs.Prelude.{suc}
use Rattle.envelope.specs.declared.chart.Point.{Point}
use Rattle.envelope.specs.Fraction.{Fraction, fraction}
use Rattle.envelope.specs.LowestTerms.{lowest_terms}
use Rattle.envelope.specs.Chart.{at, Grows, NoSteeper, NotBelow, descent}

-- A lower envelope of a chart: a list of its points, from the first to the last in
-- growing time, whose descents never grow, with no chart point below a segment.
pub record IsLowerEnvelope (chart envelope : List Point) : Type 0 where
  pub filled : 0 < length envelope
  pub first : at envelope 0 ≡ at chart 0
  pub last : at envelope (length envelope - 1) ≡ at chart (length chart - 1)
  pub points : (k : ℕ) → k < length envelope
      → (i : ℕ) × (i < length chart) × (at envelope k ≡ at chart i)
  pub grows : Grows envelope
  pub flattens : (k : ℕ) → suc (suc k) < length envelope
      → NoSteeper (at envelope k) (at envelope (suc k)) (at envelope (suc (suc k)))
  pub under : (k i : ℕ) → suc k < length envelope → i < length chart
      → (at envelope k).t ≤ (at chart i).t → (at chart i).t ≤ (at envelope (suc k)).t
      → NotBelow (at envelope k) (at envelope (suc k)) (at chart i)

-- the descent of the segment above a step that ends at
-- the time t: the first segment that ends no earlier
abbrev pub descent_over : List Point → ℕ → Fraction
descent_over [] t = fraction 0 1
descent_over (a ∷ []) t = fraction 0 1
descent_over (a ∷ b ∷ points) t = cond (nat_le t b.t) (descent a b) (descent_over (b ∷ points) t)

-- each operator's slope: the descent of the segment above its step, in lowest terms
abbrev pub slopes_along : List Point → List Point → List Fraction
slopes_along envelope chart = map (λ p. lowest_terms (descent_over envelope p.t)) (drop 1 chart)

-- The slopes of a chart's operators: there is a lower envelope, and they are what
-- every one says. So which point is taken where several are steepest decides nothing.
pub record AreSlopes (chart : List Point) (slopes : List Fraction) : Type 0 where
  pub some : (envelope : List Point) × IsLowerEnvelope chart envelope
  pub every : (envelope : List Point) → IsLowerEnvelope chart envelope
      → slopes ≡ slopes_along envelope chart

-- That a step has a segment of a lower envelope above it.
use Rattle.std.specs.Prelude.{ℕ, ◌<◌, ◌≤◌, ◌≡◌, List, length, suc}
use Rattle.envelope.specs.declared.chart.Point.{Point}
use Rattle.envelope.specs.Chart.{at, descent}
use Rattle.envelope.specs.LowerEnvelope.{descent_over}

-- that it is the segment above: it begins no later than the step
-- that follows the point at the place i, and ends no earlier
pub record HasSegmentAbove (chart envelope : List Point) (i : ℕ) : Type 0 where
  pub place : ℕ
  pub inside : suc place < length envelope
  pub begins : (at envelope place).t ≤ (at chart i).t
  pub ends : (at chart (suc i)).t ≤ (at envelope (suc place)).t
  pub says : descent_over envelope (at chart (suc i)).t
      ≡ descent (at envelope place) (at envelope (suc place))

-- That the path of each source has a chart.
use Rattle.std.specs.Prelude.{ℕ, ◌<◌, List, length, slice_index_or}
use Rattle.envelope.specs.Chart.{IsChart}
use Rattle.plan.specs.Nodes.{Node}
use Rattle.plan.specs.declared.chart.Measure.{Measure}
use Rattle.plan.specs.Paths.{path_from, points_of, windows}

-- the path of each source, from its window to the root, has a chart
abbrev pub HaveCharts : List Node → List Measure → Type 0
HaveCharts nodes measures =
    (k : ℕ) → k < length (windows 0 nodes)
    → IsChart (points_of measures (path_from nodes (slice_index_or (windows 0 nodes) k 0)))

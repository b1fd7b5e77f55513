-- Which numbers are values of streams, and which values are answers'.
use Rattle.std.specs.Prelude.{Option, Some, None, ℤ, neg_ℤ, ◌≤ℤ◌}
use Rattle.values.specs.Value.{answer_max, stream_max}

abbrev pub IsStreamNumber : ℤ → Type 0
IsStreamNumber z = (neg_ℤ stream_max ≤ℤ z) × (z ≤ℤ stream_max)

abbrev pub IsAnswerNumber : ℤ → Type 0
IsAnswerNumber z = (neg_ℤ answer_max ≤ℤ z) × (z ≤ℤ answer_max)

-- null, or a number of the answer range
abbrev pub IsAnswerValue : Option ℤ → Type 0
IsAnswerValue None = Unit {0}
IsAnswerValue (Some z) = IsAnswerNumber z

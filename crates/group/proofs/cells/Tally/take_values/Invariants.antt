use Rattle.std.proofs.Common.{◌≡◌, ◌+◌, ◌^◌, ◌<◌, ℕ, None, length, get_or, drop}
use Rattle.values.specs.Ranges.{IsAnswerValue}
use Rattle.column.specs.Bits.{bits}
use Rattle.group.specs.Cells.{TallyRoom}
use Rattle.group.specs.Batches.{tally_values}
use Rattle.group.proofs.cells.Tally.take_values.Given as goal

abbrev pub invariant-loop-place : goal.invariant-loop-place
invariant-loop-place l = record {
  done : tally_values l.keeps (drop l.place (bits (length l.lane) l.minus)) (drop l.place l.lane) l.self ≡ tally_values l.keeps (bits (length l.lane) l.minus) l.lane l.initial.self;
  room : TallyRoom (2 ^ 62 + l.place) l.self;
  range : (k : ℕ) → k < l.place → IsAnswerValue (get_or l.lane k None);
}

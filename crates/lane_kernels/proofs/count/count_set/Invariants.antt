use Rattle.std.proofs.Common.{◌≡◌, ◌*◌, count_by}
use Rattle.column.specs.Bits.{bits}
use Rattle.lane_kernels.proofs.count.count_set.Given as goal

abbrev pub invariant-loop-word : goal.invariant-loop-word
invariant-loop-word l = l.total ≡ count_by (λ b. b) (bits (64 * l.word-index) l.words)

use Rattle.std.proofs.Common.{◌≡◌, ◌<◌, slice_range}
use Rattle.column.proofs.mask.Mask.part_by_bits.Given as goal

abbrev pub invariant-loop-i : goal.invariant-loop-i
invariant-loop-i l = record { seen : l.mask ≡ slice_range l.self l.from l.i; empty : l.end < l.from → l.i ≡ l.from }

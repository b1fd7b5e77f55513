use Rattle.std.proofs.Common.{◌≡◌, ◌<◌, ◌≤◌, ◌-◌, ◌%◌, replicate}
use Rattle.column.proofs.mask.Mask.filled_by_words.Given as goal

abbrev pub invariant-loop-from : goal.invariant-loop-from
invariant-loop-from l = record { le : l.from ≤ l.count; whole : l.from < l.count → l.from % 64 ≡ 0; filled : l.mask ≡ replicate l.from l.truth }

abbrev pub decreases-loop-from : goal.decreases-loop-from
decreases-loop-from l = l.count - l.from

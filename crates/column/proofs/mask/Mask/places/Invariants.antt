use Rattle.std.proofs.Common.{◌≡◌, filter, false, get_or}
use Rattle.std.specs.List.{range_with_len}
use Rattle.column.proofs.mask.Mask.places.Given as goal

abbrev pub invariant-loop-i : goal.invariant-loop-i
invariant-loop-i l = l.places.items ≡ filter (λ i. get_or l.self i false) (range_with_len 0 l.i)

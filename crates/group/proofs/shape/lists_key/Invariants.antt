use Rattle.std.proofs.Common.{◌≡◌, map, take}
use Rattle.std.specs.List.{range_with_len}
use Rattle.values.specs.declared.resolved.ListItem.TheVariants.{Key}
use Rattle.group.proofs.shape.lists_key.Given as goal

abbrev pub invariant-loop-place : goal.invariant-loop-place
invariant-loop-place l = take l.place l.items ≡ map Key (range_with_len 0 l.place)

use Rattle.std.proofs.Common.{◌≡◌, take, map}
use Rattle.values.specs.Resolved.{items_of}
use Rattle.plan.specs.Build as spec
use Rattle.plan.proofs.place.placed_items.Given as goal

abbrev pub invariant-loop-item : goal.invariant-loop-item
invariant-loop-item l = items_of l.placed.items ≡ map (spec.item_moved (spec.placed l.widths)) (items_of (take l.item-index l.items))

use Rattle.std.proofs.Common.{◌≡◌, take, map}
use Rattle.names.specs.Views as names
use Rattle.plan.specs.Views.{keys_of}
use Rattle.plan.specs.Build as spec
use Rattle.plan.proofs.place.placed_keys.Given as goal

abbrev pub invariant-loop-key : goal.invariant-loop-key
invariant-loop-key l = keys_of l.placed.items ≡ map (spec.key_placed l.widths) (names.keys_of (take l.key-index l.keys))

use Rattle.std.proofs.Common.{◌≡◌, length, take}
use Rattle.std.specs.List.{All}
use Rattle.group.proofs.keyed.are_of_width.Given as goal

abbrev pub invariant-loop-key : goal.invariant-loop-key
invariant-loop-key g l = All (λ k. length k.items ≡ l.width) (take l.key-index l.keys)

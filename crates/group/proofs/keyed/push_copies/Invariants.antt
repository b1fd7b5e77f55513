use Rattle.std.proofs.Common.{◌≡◌, ◌++◌, take}
use Rattle.group.proofs.keyed.push_copies.Given as goal

abbrev pub invariant-loop-key : goal.invariant-loop-key
invariant-loop-key g l = l.copies.items ≡ l.initial.copies.items ++ take l.key-index l.keys

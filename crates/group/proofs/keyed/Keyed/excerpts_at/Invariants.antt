use Rattle.std.proofs.Common.{take}
use Rattle.group.specs.Turns.{near_at}
use Rattle.group.specs.Touched.{HasTouched}
use Rattle.group.proofs.keyed.Keyed.excerpts_at.Given as goal

abbrev pub invariant-loop-key : goal.invariant-loop-key
invariant-loop-key g l = HasTouched l.groups (near_at l.items l.self.cells (take l.key-index l.keys))

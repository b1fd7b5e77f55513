use Rattle.std.proofs.Common.{◌≡◌, take}
use Rattle.reference.specs.Views.{pairs_of}
use Rattle.reference.specs.World.{handed}
use Rattle.reference.proofs.standing.looks.flat_front.Given as goal

abbrev pub invariant-loop-i : goal.invariant-loop-i
invariant-loop-i l = l.rows ≡ handed (take l.i (pairs_of l.waiting.items))

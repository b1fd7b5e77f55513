use Rattle.std.proofs.Common.{◌≡◌, drop}
use Rattle.names.specs.Faults.{has_repeat}
use Rattle.reference.specs.CallViews.{texts_of}
use Rattle.reference.proofs.refusals.has_repeat.Given as goal

abbrev pub invariant-loop-i : goal.invariant-loop-i
invariant-loop-i l = has_repeat (texts_of (drop l.i l.names)) ≡ has_repeat (texts_of l.names)

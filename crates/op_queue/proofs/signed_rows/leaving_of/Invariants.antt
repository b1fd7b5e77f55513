use Rattle.std.proofs.Common.{◌≡◌, map, not, take}
use Rattle.op_queue.proofs.signed_rows.leaving_of.Given as goal

abbrev pub invariant-loop-enters : goal.invariant-loop-enters
invariant-loop-enters l = l.leaving ≡ map not (take l.enters-index l.entering)

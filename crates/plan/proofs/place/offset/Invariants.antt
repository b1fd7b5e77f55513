use Rattle.std.proofs.Common.{◌≡◌, ◌+◌, ◌-◌, drop}
use Rattle.plan.specs.Build as spec
use Rattle.plan.proofs.place.offset.Given as goal

abbrev pub invariant-loop-i : goal.invariant-loop-i
invariant-loop-i l = l.before + spec.offset (drop l.i l.fn.widths) (l.fn.column.source - l.i) l.fn.column.column ≡ spec.offset l.fn.widths l.fn.column.source l.fn.column.column

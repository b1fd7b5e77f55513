use Rattle.std.proofs.Common.{arith, ◌+◌, ◌≤◌}
use Rattle.std.proofs.Math.Facts.{Fits-bits}
use Rattle.plan.proofs.Walks.{point_room}
use Rattle.plan.proofs.paths.points_of.Goals as goal

pub overflow_add-t : goal.overflow_add-t
overflow_add-t c =
    let room : c.loop-operator.t + c.measure_at-measure.result.cost ≤ 1099511627776 =
    rw c.measure_at-measure.ensures (point_room c.args.measures.now c.args.path.now c.loop-operator.operator-index c.loop-operator.t c.loop-operator.points.items c.loop-operator-test.true c.requires c.loop-operator.invariant) in
    Fits-bits 64 tt (omega (arith, room))

use Rattle.std.proofs.Common.{arith}
use Rattle.std.proofs.Math.Facts.{Fits-bits}
use Rattle.plan.proofs.Offsets.{offset-below, offset-step, offset-end}
use Rattle.plan.proofs.place.offset.Goals as goal

pub overflow_add-before : goal.overflow_add-before
overflow_add-before c =
    Fits-bits 64 tt (omega (arith, c.loop-i.invariant, c.requires.room, offset-below c.args.widths.now c.args.column.source c.args.column.column c.requires.scope.source c.requires.scope.column, offset-step c.args.widths.now c.loop-i.i c.args.column.source c.args.column.column c.loop-i-test.true c.requires.scope.source))

pub loop-i-preserved : goal.loop-i-preserved
loop-i-preserved c =
    omega (arith, c.loop-i.invariant, offset-step c.args.widths.now c.loop-i.i c.args.column.source c.args.column.column c.loop-i-test.true c.requires.scope.source)

pub overflow_add-result : goal.overflow_add-result
overflow_add-result c =
    Fits-bits 64 tt (omega (arith, c.loop-i.invariant, c.requires.room, offset-below c.args.widths.now c.args.column.source c.args.column.column c.requires.scope.source c.requires.scope.column, offset-end c.args.widths.now c.loop-i.i c.args.column.source c.args.column.column c.loop-i.auto.i-end c.loop-i-test.false c.requires.scope.source))

pub returns : goal.returns
returns c =
    omega (arith, c.loop-i.invariant, offset-end c.args.widths.now c.loop-i.i c.args.column.source c.args.column.column c.loop-i.auto.i-end c.loop-i-test.false c.requires.scope.source)

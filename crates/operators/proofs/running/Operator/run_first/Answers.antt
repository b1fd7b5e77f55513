use Rattle.std.proofs.Common.{subst, sym}
use Rattle.column.specs.declared.batch.Side.{Side}
use Rattle.operators.specs.Fronts.{MayComeFirst}
use Rattle.operators.specs.Ready.{PlainOperator, inbox_of}
use Rattle.operators.proofs.running.Operator.run_first.Goals as goal

pub run_to-requires-clause-come : goal.run_to-requires-clause-come
run_to-requires-clause-come c =
    let o = c.args.self.now in
    subst (λ (p : PlainOperator). MayComeFirst o.kind o.state c.args.side c.args.rows c.args.log.now (inbox_of o c.args.side) p.left) (sym c.to.view_is)
    (subst (λ (d : Side). MayComeFirst o.kind o.state c.args.side c.args.rows c.args.log.now (inbox_of o c.args.side) (inbox_of c.args.to.now d)) c.in-Left.is c.requires.come)

pub run_to-requires-in-Right-clause-come : goal.run_to-requires-in-Right-clause-come
run_to-requires-in-Right-clause-come c =
    let o = c.args.self.now in
    subst (λ (p : PlainOperator). MayComeFirst o.kind o.state c.args.side c.args.rows c.args.log.now (inbox_of o c.args.side) p.right) (sym c.to.view_is)
    (subst (λ (d : Side). MayComeFirst o.kind o.state c.args.side c.args.rows c.args.log.now (inbox_of o c.args.side) (inbox_of c.args.to.now d)) c.in-Right.is c.requires.come)

use Rattle.std.proofs.Common.{subst, sym}
use Rattle.column.specs.declared.batch.Side.{Side}
use Rattle.operators.specs.Fronts.{MayComeFirst}
use Rattle.operators.specs.Ready.{PlainOperator, inbox_of}
use Rattle.operators.proofs.running.Operator.run_to.Goals as goal

pub run_first-requires-clause-come : goal.run_first-requires-clause-come
run_first-requires-clause-come c =
    let o = c.args.self.now in
    rw c.deref.ensures
    (subst (λ (p : PlainOperator). MayComeFirst p.kind p.state c.args.side c.args.rows c.args.log.now p.left c.args.to.now) (sym c.self.view_is)
    (subst (λ (d : Side). MayComeFirst o.kind o.state c.args.side c.args.rows c.args.log.now (inbox_of o d) c.args.to.now) c.in-Left.is c.requires.come))

pub run_first-requires-in-Right-clause-come : goal.run_first-requires-in-Right-clause-come
run_first-requires-in-Right-clause-come c =
    let o = c.args.self.now in
    rw c.deref-in-Right.ensures
    (subst (λ (p : PlainOperator). MayComeFirst p.kind p.state c.args.side c.args.rows c.args.log.now p.right c.args.to.now) (sym c.self.view_is)
    (subst (λ (d : Side). MayComeFirst o.kind o.state c.args.side c.args.rows c.args.log.now (inbox_of o d) c.args.to.now) c.in-Right.is c.requires.come))

use Rattle.std.proofs.Common.{subst}
use Rattle.operators.proofs.KindLemmas.{near_fits}
use Rattle.operators.specs.Ready.{PlainOperator}
use Rattle.operators.specs.States.{FitsState}
use Rattle.operators.proofs.running.Operator.near.Goals as goal

pub returns-clause-fits : goal.returns-clause-fits
returns-clause-fits c =
    let fits = subst (λ (o : PlainOperator). FitsState o.state c.args.item.now c.in_ok-near.near) c.self.view_is c.in_ok-near.ensures.fits in
    near_fits c.args.self.now.kind c.args.self.now.state c.args.side c.args.item.now c.in_ok-near.near c.requires.belongs c.requires.named fits

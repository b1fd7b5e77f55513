use Rattle.envelope.proofs.Hulls.{comparable}
use Rattle.envelope.proofs.stack.top_is_needless.Goals as goal

pub steepens-requires-clause-order : goal.steepens-requires-clause-order
steepens-requires-clause-order g c =
    (comparable c.args.points.now c.args.next c.args.stack.now c.requires.chart c.requires.within c.requires.two c.requires.begun).order

pub steepens-requires-clause-sizes : goal.steepens-requires-clause-sizes
steepens-requires-clause-sizes g c =
    (comparable c.args.points.now c.args.next c.args.stack.now c.requires.chart c.requires.within c.requires.two c.requires.begun).sizes

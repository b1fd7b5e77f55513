use Rattle.envelope.proofs.Formula.{formula_alike}
use Rattle.envelope.proofs.laws.formula_is_of_every_envelope.Goals as goal

pub returns : goal.returns
returns c = formula_alike

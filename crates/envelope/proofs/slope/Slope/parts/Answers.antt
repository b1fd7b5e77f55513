use Rattle.envelope.proofs.LowestTerms.{parts_lowest}
use Rattle.envelope.proofs.slope.Slope.parts.Goals as goal

pub returns-clause-lowest : goal.returns-clause-lowest
returns-clause-lowest c = parts_lowest c.self.inside.numerator c.self.inside.denominator c.self.invariant.0 c.self.invariant.1

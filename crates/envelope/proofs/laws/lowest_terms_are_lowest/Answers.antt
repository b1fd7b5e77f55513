use Rattle.envelope.proofs.LowestTerms.{in_lowest_terms}
use Rattle.envelope.proofs.laws.lowest_terms_are_lowest.Goals as goal

pub returns : goal.returns
returns c = in_lowest_terms

use Rattle.envelope.proofs.LowestTerms.{same_number}
use Rattle.envelope.proofs.laws.lowest_terms_are_the_same_number.Goals as goal

pub returns : goal.returns
returns c = same_number

use Rattle.envelope.proofs.LowestTerms.{one_form}
use Rattle.envelope.proofs.laws.equal_fractions_have_one_form.Goals as goal

pub returns : goal.returns
returns c = one_form

use Rattle.envelope.proofs.Supports.{all_alike}
use Rattle.envelope.proofs.laws.lower_envelopes_agree.Goals as goal

pub returns : goal.returns
returns c = all_alike

use Rattle.envelope.proofs.Along.{falls}
use Rattle.envelope.proofs.laws.no_lower_envelope_rises.Goals as goal

pub returns : goal.returns
returns c = falls

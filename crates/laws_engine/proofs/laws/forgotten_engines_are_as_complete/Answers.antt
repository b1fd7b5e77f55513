use Rattle.laws_engine.proofs.UptoLemmas.{upto_forgotten}
use Rattle.laws_engine.proofs.laws.forgotten_engines_are_as_complete.Goals as goal

pub returns : goal.returns
returns c = upto_forgotten

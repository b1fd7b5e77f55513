use Rattle.laws_engine.proofs.ForgottenLemmas.{forgotten_good}
use Rattle.laws_engine.proofs.laws.forgotten_engines_are_good.Goals as goal

pub returns : goal.returns
returns c = forgotten_good

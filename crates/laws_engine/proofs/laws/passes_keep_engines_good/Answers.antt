use Rattle.laws_engine.proofs.PassingLemmas.{pass_good}
use Rattle.laws_engine.proofs.laws.passes_keep_engines_good.Goals as goal

pub returns : goal.returns
returns c = pass_good

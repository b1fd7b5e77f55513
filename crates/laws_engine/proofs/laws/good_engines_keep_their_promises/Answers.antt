use Rattle.laws_engine.proofs.PromiseLemmas.{keeps_its_promises}
use Rattle.laws_engine.proofs.laws.good_engines_keep_their_promises.Goals as goal

pub returns : goal.returns
returns c = keeps_its_promises

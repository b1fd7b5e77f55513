use Rattle.laws_engine.proofs.HistoryLemmas.{engines_keep}
use Rattle.laws_engine.proofs.laws.engines_keep_their_promises.Goals as goal

pub returns : goal.returns
returns c = engines_keep

use Rattle.laws_queries.proofs.ForgetLemmas.{forgetting_runs}
use Rattle.laws_queries.proofs.laws.forgetting_keeps_queries.Goals as goal

pub returns : goal.returns
returns c = λ vs ws m q qs next keep waiting k os given stands r at. forgetting_runs vs ws m q qs next keep k waiting os given stands r at

use Rattle.laws_queries.proofs.NodeLemmas.{gives_its_answers}
use Rattle.laws_queries.proofs.laws.running_queries_give_their_answers.Goals as goal

pub returns : goal.returns
returns c = λ vs ws m q. gives_its_answers vs ws m q

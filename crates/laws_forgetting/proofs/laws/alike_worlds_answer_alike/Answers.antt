use Rattle.laws_forgetting.proofs.WorldLemmas.{answer_alike}
use Rattle.laws_forgetting.proofs.laws.alike_worlds_answer_alike.Goals as goal

pub returns : goal.returns
returns c = answer_alike

use Rattle.laws_engine.proofs.RememberedLemmas.{forget_none}
use Rattle.laws_engine.proofs.laws.engines_forget_no_answer.Goals as goal

pub returns : goal.returns
returns c = forget_none

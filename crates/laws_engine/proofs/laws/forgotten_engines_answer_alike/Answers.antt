use Rattle.laws_engine.proofs.AlikeLemmas.{forgotten_partly}
use Rattle.laws_engine.proofs.laws.forgotten_engines_answer_alike.Goals as goal

pub returns : goal.returns
returns c = forgotten_partly

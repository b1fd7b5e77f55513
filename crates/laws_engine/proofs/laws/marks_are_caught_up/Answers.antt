use Rattle.laws_engine.proofs.CaughtLemmas.{caught_up}
use Rattle.laws_engine.proofs.laws.marks_are_caught_up.Goals as goal

pub returns : goal.returns
returns c = caught_up

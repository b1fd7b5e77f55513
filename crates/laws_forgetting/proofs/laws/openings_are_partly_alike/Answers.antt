use Rattle.laws_forgetting.proofs.OpeningLemmas.{opened_partly}
use Rattle.laws_forgetting.proofs.laws.openings_are_partly_alike.Goals as goal

pub returns : goal.returns
returns c = opened_partly

use Rattle.laws_forgetting.proofs.OpeningLemmas.{opened_alike}
use Rattle.laws_forgetting.proofs.laws.openings_are_alike.Goals as goal

pub returns : goal.returns
returns c = opened_alike

use Rattle.laws_forgetting.proofs.WorldLemmas.{go_on_alike}
use Rattle.laws_forgetting.proofs.laws.alike_machines_go_on_alike.Goals as goal

pub returns : goal.returns
returns c = go_on_alike

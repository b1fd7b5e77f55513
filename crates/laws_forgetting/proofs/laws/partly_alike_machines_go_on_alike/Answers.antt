use Rattle.laws_forgetting.proofs.PartlyLemmas.{go_on_partly}
use Rattle.laws_forgetting.proofs.laws.partly_alike_machines_go_on_alike.Goals as goal

pub returns : goal.returns
returns c = go_on_partly

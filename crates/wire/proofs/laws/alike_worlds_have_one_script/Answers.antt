use Rattle.wire.proofs.AlikeLemmas.{scripts_alike}
use Rattle.wire.proofs.laws.alike_worlds_have_one_script.Goals as goal

pub returns : goal.returns
returns c = scripts_alike

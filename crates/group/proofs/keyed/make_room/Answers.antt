use Rattle.std.proofs.Common.{◌∙◌, ap}
use Rattle.group.specs.Keys.{in_set}
use Rattle.group.proofs.SetLemmas.{in_set-again}
use Rattle.group.proofs.keyed.make_room.Goals as goal

pub returns-clause-same : goal.returns-clause-same
returns-clause-same g c = ap in_set (c.reserve.ensures.items ∙ c.settle.ensures) ∙ in_set-again c.args.touched.now.items

pub returns-in_err-reserve-clause-same : goal.returns-in_err-reserve-clause-same
returns-in_err-reserve-clause-same g c = ap in_set (c.reserve.ensures.items ∙ c.settle.ensures) ∙ in_set-again c.args.touched.now.items

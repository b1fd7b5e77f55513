use Rattle.wire.proofs.Looking.{look_answers}
use Rattle.wire.proofs.script.show.Goals as goal

pub returns : goal.returns
returns g c whole = look_answers _ _ c.look.result _ c.seen.ensures (c.look.ensures.looks whole)

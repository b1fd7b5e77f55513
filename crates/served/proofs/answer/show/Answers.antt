use Rattle.reference.specs.Looks.{seen_in}
use Rattle.served.proofs.answer.show.Goals as goal

pub returns : goal.returns
returns g c = (c.look.ensures.0, seen_in c.look.result, c.seen.ensures, c.look.ensures.1)

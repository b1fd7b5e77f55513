use Rattle.hub.proofs.KnownLemmas.{settled_alone}
use Rattle.hub.proofs.hub.Hub.settle.Goals as goal

pub returns : goal.returns
returns g c = settled_alone c.args.seat.now c.settle_and_forget.new.seat c.settle_and_forget.result 0 c.settle_and_forget.ensures

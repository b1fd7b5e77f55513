use Rattle.std.proofs.Common.{inr}
use Rattle.served.proofs.keeper.Keeper.settle.Goals as goal

pub returns : goal.returns
returns g c = inr (c.settle_and_forget.ensures.0, c.settle_and_forget.ensures.1, c.settle_and_forget.result, c.settle_and_forget.ensures.3)

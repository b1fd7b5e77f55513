use Rattle.std.proofs.Common.{inl}
use Rattle.workers.proofs.worker.bring_back.Goals as goal

pub returns-in-Ok : goal.returns-in-Ok
returns-in-Ok g c = inl (c.in-Ok.done, c.in-Ok.ensures.turn, c.in-Ok.ensures.done, c.finish.ensures)

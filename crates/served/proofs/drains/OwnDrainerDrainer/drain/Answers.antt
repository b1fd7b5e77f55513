use Rattle.served.proofs.Crossing.{is_shared}
use Rattle.served.proofs.drains.OwnDrainerDrainer.drain.Goals as goal

pub run_turns-requires-sync-R : goal.run_turns-requires-sync-R
run_turns-requires-sync-R g c κs within = record { shared = is_shared g.row.R.shr_at c.requires }

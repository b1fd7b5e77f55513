use Rattle.wire.specs.Printed.{answer_of}
use Rattle.served.proofs.Crossing.{is_shared}
use Rattle.served.proofs.Requests.{pool_drained}
use Rattle.served.proofs.drains.PoolDrainerDrainer.drain.Goals as goal

pub drain-requires-sync-R : goal.drain-requires-sync-R
drain-requires-sync-R g c κs within = record { shared = is_shared g.row.R.shr_at c.requires }

pub run_in_place-requires-sync-R : goal.run_in_place-requires-sync-R
run_in_place-requires-sync-R g c κs within = record { shared = is_shared g.row.R.shr_at c.requires }

pub returns-in-None : goal.returns-in-None
returns-in-None g c =
    pool_drained c.args.self.now.workers c.args.self.now.rows c.drain.result (answer_of c.done.result) c.args.self.now.turn
    c.drain.ensures.ok c.drain.ensures.bad c.drain.ensures.full c.drain.ensures.err c.done.ensures

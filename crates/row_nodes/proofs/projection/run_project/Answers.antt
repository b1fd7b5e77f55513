use Rattle.std.proofs.Common.{ap, map, refl}
use Rattle.op_queue.specs.Entries.{RowAt}
use Rattle.op_queue.specs.declared.item.Item.TheVariants.{Rows, Tick}
use Rattle.row_nodes.proofs.PushLemmas.{pushed}
use Rattle.row_nodes.proofs.projection.run_project.Goals as goal

pub returns-in_ok-rows-in-Rows-clause-gained : goal.returns-in_ok-rows-in-Rows-clause-gained
returns-in_ok-rows-in-Rows-clause-gained c =
    rw c.in-Rows.is
    (pushed c.push.result (Rows c.in-Rows.at c.in_ok-rows-in-Rows.rows) c.args.queue.now c.push.new.self (ap (map (RowAt c.in-Rows.at)) c.in_ok-rows-in-Rows.ensures) c.push.ensures.entries c.push.ensures.begins)

pub returns-in-Tick-clause-gained : goal.returns-in-Tick-clause-gained
returns-in-Tick-clause-gained c =
    rw c.in-Tick.is (pushed c.push-in-Tick.result (Tick c.in-Tick.at) c.args.queue.now c.push-in-Tick.new.self refl c.push-in-Tick.ensures.entries c.push-in-Tick.ensures.begins)

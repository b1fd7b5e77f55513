-- A number above the query's is a number of the code.
use Rattle.std.proofs.Common.{◌<◌, length, arith}
use Rattle.leases.proofs.OutLemmas.{item_within}
use Rattle.leases.proofs.state.EngineState.add_job.Goals as goal

pub overflow_add-result : goal.overflow_add-result
overflow_add-result c =
    let may = c.is_ready.ensures c.if-not-is_ready.false in
    let within : c.args.query < length c.args.self.now.remains.items = item_within c.args.self.now.remains.items c.args.query may.plain may.running in
    omega (arith, within, c.args.self.now.remains.ok)

use denote.Param.Send.{IsSend, IsSync, sendable, param_send, view_send}
use denote.Param.SendFields.{declared_send}
use Rattle.std.proofs.Crossing.{crosses, send}
use Rattle.std.specs.contracts.option.Option as option
use Rattle.std.specs.contracts.sync.Mutex as mutex
use Rattle.hub.proofs.SendLemmas.{hub_sync}
use Rattle.reference.specs.contracts.fault.Fault as fault
use Rattle.workers.specs.contracts.want.Want as want
use Rattle.workers.specs.contracts.want.Want.TheInside as inside
use Rattle.workers.proofs.pool.fn.Pool.drain.scope.Goals as goal
use Rattle.workers.proofs.pool.fn.Pool.drain.scope.Lts as lts

fault_send : IsSend fault.the_row
fault_send = search (sendable, crosses) depth 60 fits 400000

want_send : IsSend want.the_row
want_send = view_send inside.the_row _ _ want.the_view _ (declared_send inside.the_type (fault_send, tt))

met_sync : IsSync (mutex.the_row (option.the_row want.the_row))
met_sync = search (sendable, crosses, want_send) depth 20

pub spawn-requires-send-F : goal.spawn-requires-send-F
spawn-requires-send-F c d κs lives =
    let r : IsSync c.row.R = search sendable in
    let g : IsSync c.row.G = search sendable in
    param_send 1 (lts.arg-0-1 c.row.R c.row.G c.R.laws c.G.laws c.R.Threads-dict c.R.Wait-dict c.G.Gate-dict κs) (record {
      owned = λ x vs vss. (tt, ((tt, r.shared x.0.now x.0.ref_ptr.0 x.0.ref_ptr.1 _), ((tt, met_sync.shared x.1.now x.1.ref_ptr.0 x.1.ref_ptr.1 _), (send.owned x.2 vss.1.1.0, ((tt, hub_sync.shared x.3.now x.3.ref_ptr.0 x.3.ref_ptr.1 _), ((tt, g.shared x.4.now x.4.ref_ptr.0 x.4.ref_ptr.1 _), ((tt, tt), tt)))))));
      leaving = λ k x w. tt {0};
    })

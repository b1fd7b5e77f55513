-- The instant after the last tick is a number of the code, and one that there is.
use Rattle.std.proofs.Common.{ap}
use Rattle.leases.specs.Views.{query_of, remains_of}
use Rattle.leases.proofs.GoingLemmas.{next_small}
use Rattle.leases.proofs.state.status.reach.Goals as goal

pub reach_of-requires : goal.reach_of-requires
reach_of-requires c = next_small (query_of c.args.query.now) (remains_of c.args.remains.now) c.in-Running.running c.last_tick.result c.requires (ap remains_of c.in-Running.is) c.last_tick.ensures

-- The instant after the mark is a number of the code.
use Rattle.std.proofs.Common.{ap}
use Rattle.leases.specs.Views.{query_of, remains_of}
use Rattle.leases.proofs.GoingLemmas.{next_small}
use Rattle.leases.proofs.state.forget.next_of.Goals as goal

pub next_behind-requires : goal.next_behind-requires
next_behind-requires c = next_small (query_of c.args.query.now) (remains_of c.args.remains.now) c.in-Running.running c.last_tick.result c.requires (ap remains_of c.in-Running.is) c.last_tick.ensures

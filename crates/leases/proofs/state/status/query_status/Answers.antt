-- The instant up to which it is complete is one that there is.
use Rattle.leases.proofs.state.status.query_status.Goals as goal

pub instant_before-requires-2 : goal.instant_before-requires-2
instant_before-requires-2 c = c.reach-reach.result.early

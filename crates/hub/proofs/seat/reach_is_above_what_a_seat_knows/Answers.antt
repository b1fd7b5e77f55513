use Rattle.hub.proofs.ReachLemmas.{reach_above, reached, settled_below}
use Rattle.hub.proofs.seat.reach_is_above_what_a_seat_knows.Goals as goal

pub returns-clause-above : goal.returns-clause-above
returns-clause-above c = reach_above

pub returns-clause-settled : goal.returns-clause-settled
returns-clause-settled c = settled_below

pub returns-clause-reached : goal.returns-clause-reached
returns-clause-reached c = reached

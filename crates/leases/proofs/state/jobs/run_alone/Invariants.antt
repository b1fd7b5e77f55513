-- Up to here the query took steps of its own, each with a number, and none ran out of memory; what was found to come first is ready.
use Rattle.std.proofs.Common.{◌≡◌, ◌-◌, ◌≤◌, false, IfSome, List, length}
use Rattle.leases.specs.Alone.{HaveRunOwn, IsReadyIn, OwnStep, one_was_less_own}
use Rattle.leases.proofs.state.jobs.run_alone.Given as goal

abbrev pub invariant-turns : goal.invariant-turns
invariant-turns l = record {
  ran : (steps : List OwnStep) × (HaveRunOwn l.streams l.quota.rows l.fn.query steps l.query × (l.turns ≡ length steps) × (one_was_less_own steps ≡ false));
  few : l.turns ≤ l.quota.turns;
  next : IfSome l.next (IsReadyIn l.streams l.query);
}

-- each takes a number
abbrev pub decreases-turns : goal.decreases-turns
decreases-turns l = l.quota.turns - l.turns

use Rattle.std.proofs.Common.{◌*◌}
use Rattle.group.specs.Turns.{CountsUpTo}
use Rattle.tests_in_place.proofs.groups.put_out.Given as goal

abbrev pub invariant-loop-step : goal.invariant-loop-step
invariant-loop-step l = record {
  turns : CountsUpTo (l.step * 1024) l.by_turns;
  places : CountsUpTo (l.step * 1024) l.in_place;
}

use Rattle.std.proofs.Common.{subst, sym}
use Rattle.group.specs.Turns.{CountsUpTo}
use Rattle.group.proofs.RoomLemmas.{room_begins}
use Rattle.tests_in_place.proofs.groups.both.Goals as goal

pub put_out-requires : goal.put_out-requires
put_out-requires c = record {
  few = c.requires;
  turns = subst (CountsUpTo 0) (sym c.in_ok-by_turns.ensures) (room_begins 0 c.args.first);
  places = subst (CountsUpTo 0) (sym c.in_ok-in_place.ensures) (room_begins 0 c.args.second);
}

use Rattle.std.proofs.Common.{◌≡◌, ◌≤◌, fold, drop}
use Rattle.group.specs.Rooms.{cells_in, room_of, touched_in}
use Rattle.group.specs.Turns.{shown_after}
use Rattle.group.proofs.state.show_all.Given as goal

abbrev pub invariant-loop-place : goal.invariant-loop-place
invariant-loop-place l = record {
  done : fold (shown_after l.count) (cells_in l.cells) (drop l.place l.all) ≡ fold (shown_after l.count) (cells_in l.initial.cells) l.all;
  touched : touched_in l.cells ≡ touched_in l.initial.cells;
  wider : room_of l.initial.cells ≤ room_of l.cells;
}

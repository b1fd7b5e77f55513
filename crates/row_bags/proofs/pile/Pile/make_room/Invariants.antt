use Rattle.std.proofs.Common.{◌≡◌, ◌-◌}
use Rattle.row_bags.specs.Piles.{pile_in, pile_room}
use Rattle.row_bags.proofs.pile.Pile.make_room.Given as goal
use Rattle.values.specs.declared.TheConstants.{MAX_COLUMNS}

abbrev pub invariant-loop-alloc : goal.invariant-loop-alloc
invariant-loop-alloc l = pile_in l.self ≡ pile_in l.initial.self

abbrev pub decreases-loop-alloc : goal.decreases-loop-alloc
decreases-loop-alloc l = MAX_COLUMNS - pile_room l.self

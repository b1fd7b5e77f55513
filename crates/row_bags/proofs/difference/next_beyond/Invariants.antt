use Rattle.std.proofs.Common.{◌≡◌, ◌≤◌, drop, length}
use Rattle.row_bags.specs.Lists.{beyond}
use Rattle.row_bags.specs.Piles.{pile_in}
use Rattle.row_bags.proofs.difference.next_beyond.Given as goal

abbrev pub invariant-loop-place : goal.invariant-loop-place
invariant-loop-place l = record {
  rest : beyond (drop l.place (pile_in l.rows)) (drop l.next (pile_in l.others)) ≡ beyond (drop l.start (pile_in l.rows)) (drop l.other (pile_in l.others));
  within : l.next ≤ length (pile_in l.others);
}

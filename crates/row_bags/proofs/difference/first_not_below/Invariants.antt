use Rattle.std.proofs.Common.{◌≡◌, drop}
use Rattle.row_bags.specs.Lists.{not_below}
use Rattle.row_bags.specs.Piles.{pile_in}
use Rattle.row_bags.proofs.difference.first_not_below.Given as goal

abbrev pub invariant-loop-place : goal.invariant-loop-place
invariant-loop-place l = not_below l.values (drop l.place (pile_in l.others)) ≡ not_below l.values (drop l.start (pile_in l.others))

use Rattle.std.proofs.Common.{◌≡◌, take}
use Rattle.row_bags.specs.Piles.{pile_in}
use Rattle.row_bags.proofs.compared.are_alike.Given as goal

abbrev pub invariant-loop-place : goal.invariant-loop-place
invariant-loop-place l = take l.place (pile_in l.rows) ≡ take l.place (pile_in l.others)

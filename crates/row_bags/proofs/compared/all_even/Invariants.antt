use Rattle.std.proofs.Common.{◌≡◌, take, true}
use Rattle.std.specs.List.{list_all}
use Rattle.row_bags.specs.Compared.{is_balanced}
use Rattle.row_bags.specs.Piles.{pile_in}
use Rattle.row_bags.proofs.compared.all_even.Given as goal

abbrev pub invariant-loop-place : goal.invariant-loop-place
invariant-loop-place l = list_all (is_balanced (pile_in l.a) (pile_in l.b) (pile_in l.c) (pile_in l.d)) (take l.place (pile_in l.rows)) ≡ true

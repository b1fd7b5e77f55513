use Rattle.std.proofs.Common.{◌≡◌, ◌≤◌, ◌++◌, drop, map, length, take}
use Rattle.row_bags.specs.Lists.{beyond}
use Rattle.row_bags.specs.Piles.{pile_in}
use Rattle.row_bags.proofs.difference.push_beyond.Given as goal

abbrev pub invariant-loop-place : goal.invariant-loop-place
invariant-loop-place l = record {
  all : l.answers ++ map (λ r. (l.at, r)) (beyond (drop l.place (pile_in l.rows)) (drop l.other (pile_in l.others))) ≡ l.initial.answers ++ map (λ r. (l.at, r)) (beyond (pile_in l.rows) (pile_in l.others));
  within : l.other ≤ length (pile_in l.others);
  kept : take (length l.initial.answers) l.answers ≡ l.initial.answers;
}

use Rattle.std.proofs.Common.{◌≡◌, drop}
use Rattle.row_bags.specs.Bags.{array_cmp}
use Rattle.row_bags.proofs.KeyLemmas.{key_cmp}
use Rattle.row_bags.proofs.key.RowKeyOrd.cmp.Given as goal

abbrev pub invariant-loop-place : goal.invariant-loop-place
invariant-loop-place g l = key_cmp (drop l.place l.self-inside.values) (drop l.place l.other-inside.values) l.self-inside.len l.other-inside.len ≡ array_cmp l.self l.other

use Rattle.std.proofs.Common.{◌≡◌, ◌-◌, ◌++◌, None, length, take, drop, replicate}
use Rattle.row_bags.proofs.KeyLemmas.{filled}
use Rattle.row_bags.proofs.key.RowKey.of.Given as goal

abbrev pub invariant-loop-place : goal.invariant-loop-place
invariant-loop-place g l = l.values ≡ take l.place (filled l.row.items (g.row.N - length l.row.items)) ++ drop l.place (replicate g.row.N None)

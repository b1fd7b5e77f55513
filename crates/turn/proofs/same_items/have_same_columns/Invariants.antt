use Rattle.std.proofs.Common.{◌≡◌, ◌<◌, ℕ}
use Rattle.column.specs.Rows.{column_of}
use Rattle.turn.proofs.same_items.have_same_columns.Given as goal

abbrev pub invariant-loop-k : goal.invariant-loop-k
invariant-loop-k l = (j : ℕ) → j < l.k → column_of l.a j ≡ column_of l.b j

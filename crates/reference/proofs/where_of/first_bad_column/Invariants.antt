use Rattle.std.proofs.Common.{◌≡◌}
use Rattle.reference.specs.CallViews.{texts_of}
use Rattle.reference.specs.WhereOf.{first_bad_column}
use Rattle.reference.proofs.WhereLemmas.{columns_from}
use Rattle.reference.proofs.where_of.first_bad_column.Given as goal

abbrev pub invariant-loop-place : goal.invariant-loop-place
invariant-loop-place l = columns_from l.place l.columns ≡ first_bad_column (texts_of l.columns)

use Rattle.std.proofs.Common.{◌≡◌, drop, length, sum}
use Rattle.reference.specs.WhereOf.{first_other_in}
use Rattle.reference.proofs.where_of.first_with_other_value.Given as goal

abbrev pub invariant-loop-row : goal.invariant-loop-row
invariant-loop-row l =
    (first_other_in l.row (drop l.row l.widths) l.rest ≡ first_other_in 0 l.widths l.values)
    × (sum (drop l.row l.widths) ≡ length l.rest)

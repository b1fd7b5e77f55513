use Rattle.std.proofs.Common.{◌≡◌, ℕ, ◌<◌, length, get_or, false, Option, ℤ}
use Rattle.arrayvec.specs.ArrayVec.{ArrayVec}
use Rattle.values.specs.Row.{same_row}
use Rattle.reference.proofs.evaluate.bag.remove_one.Given as goal

abbrev pub invariant-loop-i : goal.invariant-loop-i
invariant-loop-i l =
    (l.rows.items ≡ l.initial.rows.items)
    × (l.i-end ≡ length l.rows.items)
    × ((k : ℕ) (d : ArrayVec (Option ℤ)) → k < l.i → same_row l.row.items (get_or l.rows.items k d).items ≡ false)

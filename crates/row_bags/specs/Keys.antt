-- The order of keys.
use Rattle.std.specs.Cmp.{IsTotalOrder, on_total, int_cmp_total}
use Rattle.std.specs.Cmp.Lexicographic.{lists_total, options_total}
use Rattle.std.specs.Prelude.{Option, ℤ}
use Rattle.arrayvec.specs.ArrayVec.{ArrayVec}
use Rattle.row_bags.specs.Bags.{array_cmp}

-- rows are in one order
pub array_total : IsTotalOrder array_cmp
array_total = on_total (λ (r : ArrayVec (Option ℤ)). r.items)
    (lists_total (options_total int_cmp_total))

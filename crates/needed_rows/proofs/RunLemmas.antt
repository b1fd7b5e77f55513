-- Lists of instants in order.
use Rattle.std.proofs.Common.{ℕ, List, length, arith}
use Rattle.std.specs.List.Sorted.{IsNonDecreasingBy}
use Rattle.std.proofs.lemmas.List.{get_or_default}
use Rattle.op_queue.specs.Tables.{IsRising}

pub in_order : (ns : List ℕ) → IsRising ns 0 (length ns) → IsNonDecreasingBy (λ (y : ℕ). y) ns
in_order ns h i j d le lt =
    let e = get_or_default ns i d 0 (omega arith) in
    let f = get_or_default ns j d 0 lt in
    let k = h i j (omega arith) le lt in
    omega arith

-- The law of one step: a bag in order after signed rows is, in order, the bag that they turn it into.
use Rattle.std.proofs.Common.{◌≡◌, ℕ, suc, ◌<◌, Bool, true, false, cond, List, [], ◌∷◌, ap, ◌∙◌, arith}
use Rattle.values.specs.Row.{Row, row_cmp}
use Rattle.values.specs.Bag.{copies, without, in_order}
use Rattle.values.proofs.Bags.{same_itself}
use Rattle.values.proofs.Order.{row_order}
use Rattle.op_queue.specs.Signed.{weigh, Adds, Legal}
use Rattle.op_queue.proofs.SignedLemmas.{Same-from_none}
use Rattle.row_bags.specs.Bags.{bag_after}
use Rattle.row_bags.proofs.OrderLemmas.{is_copy, copies-weigh, in_order-of_same, weigh-without, without-in_order}

-- THE FIRST OF SOME SIGNED ROWS

pub adds-entered : (r : Row) (ss : List (Bool × Row)) {b c : List Row} → Adds b ((true, r) ∷ ss) c → Adds (r ∷ b) ss c
unfolding weigh
adds-entered r ss h = record { weighs = λ w. omega (arith, h.weighs w) }

pub legal-entered : (r : Row) (ss : List (Bool × Row)) {b : List Row} → Legal b ((true, r) ∷ ss) → Legal (r ∷ b) ss
unfolding weigh
legal-entered r ss h = record { fits = λ w k. omega (arith, h.fits w (suc k)) }

-- what leaves was there
pub there : (r : Row) (ss : List (Bool × Row)) {b : List Row} → Legal b ((false, r) ∷ ss) → 0 < copies row_cmp r b
unfolding weigh
there r ss {b = b} h = omega (arith, h.fits (is_copy row_cmp row_order r) 1, copies-weigh row_cmp row_order r b, ap {B = ℕ} (λ t. cond t 1 0) (same_itself row_cmp row_order r))

pub adds-left : (r : Row) (ss : List (Bool × Row)) {b c : List Row} → 0 < copies row_cmp r b → Adds b ((false, r) ∷ ss) c → Adds (without row_cmp r b) ss c
unfolding weigh
adds-left r ss {b = b} n h = record { weighs = λ w. omega (arith, h.weighs w, weigh-without row_cmp row_order w r b n) }

pub legal-left : (r : Row) (ss : List (Bool × Row)) {b : List Row} → 0 < copies row_cmp r b → Legal b ((false, r) ∷ ss) → Legal (without row_cmp r b) ss
unfolding weigh
legal-left r ss {b = b} n h = record { fits = λ w k. omega (arith, h.fits w (suc k), weigh-without row_cmp row_order w r b n) }

-- THE LAW

pub after-in_order : (ss : List (Bool × Row)) (b c : List Row) → Legal b ss → Adds b ss c → bag_after (in_order row_cmp b) ss ≡ in_order row_cmp c
after-in_order [] b c l a = in_order-of_same row_cmp row_order b c (Same-from_none a)
after-in_order ((true, r) ∷ ss) b c l a = after-in_order ss (r ∷ b) c (legal-entered r ss l) (adds-entered r ss a)
after-in_order ((false, r) ∷ ss) b c l a =
    let n : 0 < copies row_cmp r b = there r ss l in
    ap (λ xs. bag_after xs ss) (without-in_order row_cmp row_order r b) ∙ after-in_order ss (without row_cmp r b) c (legal-left r ss n l) (adds-left r ss n a)

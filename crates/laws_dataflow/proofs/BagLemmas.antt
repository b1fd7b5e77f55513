-- Bags of rows: two notions of one bag.
use Rattle.std.proofs.Common.{◌≡◌, ◌+◌, List, ap, subst, arith}
use Rattle.values.specs.Row.{Row, row_cmp}
use Rattle.values.specs.Perm.{Perm, same, keep, flip, join}
use Rattle.values.proofs.Order.{row_order}
use Rattle.values.proofs.Perms.{perm-same_bag}
use Rattle.op_queue.specs.Signed.{weigh, Same}
use Rattle.op_queue.proofs.SignedLemmas.{Same-refl, Same-trans}
use Rattle.row_bags.proofs.OrderLemmas.{copies-same}

pub perm_same : {X : Type 0} {xs ys : List X} → Perm xs ys → Same xs ys
unfolding weigh
perm_same (same us) = Same-refl us
perm_same (keep x us vs p) = record { weighs = λ w. ap (λ n. w x + n) ((perm_same p).weighs w) }
perm_same (flip x y us) = record { weighs = λ w. omega arith }
perm_same (join us vs ws p q) = Same-trans (perm_same p) (perm_same q)

pub same_perm : (xs ys : List Row) → Same xs ys → Perm xs ys
same_perm xs ys h = perm-same_bag row_cmp row_order xs ys (λ q. copies-same row_cmp row_order xs ys h q)

pub same_of : {X : Type 0} {xs ys : List X} → xs ≡ ys → Same xs ys
same_of {X = X} {xs = xs} e = let P : List X → Type 0 = λ l. Same xs l in subst P e (Same-refl xs)

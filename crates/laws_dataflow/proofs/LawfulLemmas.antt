-- Each operator's value goes by the bag.
use Rattle.std.proofs.Common.{List, [], ◌∷◌, map, flat_map}
use Rattle.values.specs.Row.{Row, row_cmp}
use Rattle.values.specs.Perm.{join}
use Rattle.values.specs.Bag.{distinct}
use Rattle.values.specs.Condition.{Condition}
use Rattle.values.specs.Relation.{Shape}
use Rattle.values.proofs.Order.{row_order}
use Rattle.values.proofs.Perms.{perm-distinct, perm-filter, perm-flat_map, perm-flat_map_each, perm-map}
use Rattle.values.proofs.Worlds.{perm-shaped}
use Rattle.op_queue.specs.Signed.{Same}
use Rattle.plan.specs.Nodes.{Key}
use Rattle.plan.specs.Values.{holds_all, pair, joined, selected, shaped_rows}
use Rattle.laws_dataflow.proofs.BagLemmas.{perm_same, same_perm}

pub selected_same : (cs : List Condition) (xs ys : List Row) → Same xs ys → Same (selected cs xs) (selected cs ys)
selected_same cs xs ys h = perm_same (perm-filter (λ r. holds_all cs (r ∷ [])) xs ys (same_perm xs ys h))

pub shaped_same : (shape : Shape) (xs ys : List Row) → Same xs ys → Same (shaped_rows shape xs) (shaped_rows shape ys)
shaped_same shape xs ys h = perm_same (perm-shaped shape (map (λ r. r ∷ []) xs) (map (λ r. r ∷ []) ys) (perm-map (λ r. r ∷ []) xs ys (same_perm xs ys h)))

pub distinct_same : (xs ys : List Row) → Same xs ys → Same (distinct row_cmp xs) (distinct row_cmp ys)
distinct_same xs ys h = perm_same (perm-distinct row_cmp row_order xs ys (same_perm xs ys h))

pub joined_same : (keys : List Key) (xs ys us vs : List Row) → Same xs ys → Same us vs → Same (joined keys xs us) (joined keys ys vs)
joined_same keys xs ys us vs h k =
    let each : List Row → Row → List Row = λ rs l. flat_map (pair keys l) rs in
    perm_same (join (flat_map (each us) xs) (flat_map (each us) ys) (flat_map (each vs) ys)
    (perm-flat_map (each us) xs ys (same_perm xs ys h))
    (perm-flat_map_each (each us) (each vs) ys (λ l. perm-flat_map (pair keys l) us vs (same_perm us vs k))))

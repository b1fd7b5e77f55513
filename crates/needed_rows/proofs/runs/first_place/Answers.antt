use Rattle.std.proofs.Common.{ltb, ltb-true, rules, arith}
use Rattle.std.proofs.lemmas.Bool.{ltb-false}
use Rattle.std.proofs.lemmas.List.Sorted.{IsPartitionPoint-from_clause, IsPartitionedBy-ltb}
use Rattle.needed_rows.proofs.RunLemmas.{in_order}
use Rattle.needed_rows.proofs.runs.first_place.Goals as goal

pub returns-clause-below : goal.returns-clause-below
returns-clause-below c =
    let parted = IsPartitionedBy-ltb (λ y. y) _ c.args.least (in_order c.args.instants.now c.requires) in
    let point = IsPartitionPoint-from_clause (λ y. ltb y c.args.least) _ _ c.partition_point.ensures.partitioned parted (λ a r q k. search rules) in
    λ i lt. ltb-true _ _ (point.0 i 0 (omega arith) lt)

pub returns-clause-above : goal.returns-clause-above
returns-clause-above c =
    let parted = IsPartitionedBy-ltb (λ y. y) _ c.args.least (in_order c.args.instants.now c.requires) in
    let point = IsPartitionPoint-from_clause (λ y. ltb y c.args.least) _ _ c.partition_point.ensures.partitioned parted (λ a r q k. search rules) in
    λ i le lt. ltb-false _ _ (point.1 i 0 le lt)

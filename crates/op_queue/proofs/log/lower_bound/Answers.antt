use Rattle.std.proofs.Common.{ltb, rules}
use Rattle.std.proofs.lemmas.List.Sorted.{IsPartitionPoint-from_clause, IsPartitionedBy-ltb}
use Rattle.op_queue.proofs.BoundLemmas.{IsNonDecreasing-rising, below_point, above_point}
use Rattle.op_queue.proofs.log.lower_bound.Goals as goal

pub returns-clause-below : goal.returns-clause-below
returns-clause-below c =
    let parted = IsPartitionedBy-ltb (λ y. y) _ c.args.least (IsNonDecreasing-rising c.args.numbers.now c.args.from c.args.to c.requires.within c.requires.rising) in
    let point = IsPartitionPoint-from_clause (λ y. ltb y c.args.least) _ _ c.partition_point.ensures.partitioned parted (λ a r q k. search rules) in
    below_point c.args.numbers.now c.args.from c.args.to c.args.least c.partition_point.result c.requires.within c.partition_point.ensures.bound point

pub returns-clause-above : goal.returns-clause-above
returns-clause-above c =
    let parted = IsPartitionedBy-ltb (λ y. y) _ c.args.least (IsNonDecreasing-rising c.args.numbers.now c.args.from c.args.to c.requires.within c.requires.rising) in
    let point = IsPartitionPoint-from_clause (λ y. ltb y c.args.least) _ _ c.partition_point.ensures.partitioned parted (λ a r q k. search rules) in
    above_point c.args.numbers.now c.args.from c.args.to c.args.least c.partition_point.result c.requires.within point

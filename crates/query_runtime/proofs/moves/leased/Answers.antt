use Rattle.query_runtime.proofs.LeaseLemmas.{part_leased, part_taken}
use Rattle.query_runtime.proofs.moves.leased.Goals as goal

pub near-requires-clause-belongs : goal.near-requires-clause-belongs
near-requires-clause-belongs c = (part_taken c.args.rows c.within_a_batch.result c.args.operator.now c.args.log.now c.args.side c.in_ok-item.item c.within_a_batch.ensures c.requires c.in_ok-item.ensures.part).belongs

pub near-requires-clause-columns : goal.near-requires-clause-columns
near-requires-clause-columns c = (part_taken c.args.rows c.within_a_batch.result c.args.operator.now c.args.log.now c.args.side c.in_ok-item.item c.within_a_batch.ensures c.requires c.in_ok-item.ensures.part).may.columns

pub near-requires-clause-named : goal.near-requires-clause-named
near-requires-clause-named c = (part_taken c.args.rows c.within_a_batch.result c.args.operator.now c.args.log.now c.args.side c.in_ok-item.item c.within_a_batch.ensures c.requires c.in_ok-item.ensures.part).may.named

pub returns : goal.returns
returns c =
    part_leased c.args.rows c.within_a_batch.result c.args.operator.now c.args.log.now c.args.side c.in_ok-item.item c.in_ok-near.near c.within_a_batch.ensures c.requires
    c.in_ok-item.ensures.part c.in_ok-item.ensures.value c.in_ok-near.ensures.value c.in_ok-near.ensures.fits

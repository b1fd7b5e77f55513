use Rattle.reference.proofs.RowLemmas.{rows_in_order}
use Rattle.reference.proofs.evaluate.bag.sort_rows.Goals as goal

pub returns : goal.returns
returns c = rows_in_order c.args.rows.items c.sort_unstable.new.self.items c.sort_unstable.ensures.permutation c.sort_unstable.ensures.sorted

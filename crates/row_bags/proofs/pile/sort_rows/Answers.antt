use Rattle.row_bags.proofs.RowLemmas.{rows_in_order}
use Rattle.row_bags.proofs.pile.sort_rows.Goals as goal

pub returns : goal.returns
returns g c = rows_in_order c.args.rows.now.items c.sort_unstable.new.self.items c.sort_unstable.ensures.permutation c.sort_unstable.ensures.sorted

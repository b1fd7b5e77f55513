use Rattle.std.proofs.Common.{ap}
use Rattle.windows.specs.Held.{WideRows}
use Rattle.windows.proofs.FlatLemmas.{rows_up_to}
use Rattle.windows.proofs.LeavingLemmas.{cut_rows-last}
use Rattle.windows.proofs.row_deque.RowDeque.drop_last.Goals as goal

pub overflow_sub-self : goal.overflow_sub-self
overflow_sub-self c =
    rows_up_to c.self.inside.width c.self.inside.len c.args.count c.self.inside.values.items c.args.self.now.rows (ap (λ (r : WideRows). r.rows) c.self.view_is) c.requires

pub returns-clause-rows : goal.returns-clause-rows
returns-clause-rows c =
    cut_rows-last c.self.inside.width c.self.inside.len c.args.count c.self.inside.values.items c.truncate.new.self.items c.args.self.now.rows c.truncate.ensures.items (ap (λ (r : WideRows). r.rows) c.self.view_is)

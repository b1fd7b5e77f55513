use Rattle.std.proofs.Common.{◌-◌, ap, ◌∙◌, sym, subst, arith, drop}
use Rattle.windows.specs.Held.{WideRows, IsFlat, cut_rows}
use Rattle.windows.proofs.FlatLemmas.{IsFlat-drop, cut_rows-drop, rows_fit, rows_up_to}
use Rattle.windows.proofs.row_deque.RowDeque.leave.Goals as goal

pub overflow_mul-count : goal.overflow_mul-count
overflow_mul-count c =
    let le = rows_up_to c.self.inside.width c.self.inside.len c.args.count c.self.inside.values.items c.args.self.now.rows (ap (λ (r : WideRows). r.rows) c.self.view_is) c.requires in
    omega (arith, rows_fit c.self.inside.width c.self.inside.len c.args.count c.self.inside.values.items c.self.invariant le)

pub overflow_sub-self : goal.overflow_sub-self
overflow_sub-self c = rows_up_to c.self.inside.width c.self.inside.len c.args.count c.self.inside.values.items c.args.self.now.rows (ap (λ (r : WideRows). r.rows) c.self.view_is) c.requires

pub invariant_of-self : goal.invariant_of-self
invariant_of-self c =
    let le = rows_up_to c.self.inside.width c.self.inside.len c.args.count c.self.inside.values.items c.args.self.now.rows (ap (λ (r : WideRows). r.rows) c.self.view_is) c.requires in
    subst (IsFlat c.self.inside.width (c.self.inside.len - c.args.count)) (sym c.leave_values.ensures.items) (IsFlat-drop c.self.inside.width c.self.inside.len c.args.count c.self.inside.values.items le c.self.invariant)

pub returns-clause-rows : goal.returns-clause-rows
returns-clause-rows c =
    let is = ap (λ (r : WideRows). r.rows) c.self.view_is in
    let le = rows_up_to c.self.inside.width c.self.inside.len c.args.count c.self.inside.values.items c.args.self.now.rows is c.requires in
    ap (cut_rows c.self.inside.width (c.self.inside.len - c.args.count)) c.leave_values.ensures.items
    ∙ cut_rows-drop c.self.inside.width c.self.inside.len c.args.count c.self.inside.values.items le
    ∙ ap (drop c.args.count) is

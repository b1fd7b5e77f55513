use Rattle.std.proofs.Common.{◌∙◌, ap, arith}
use Rattle.windows.specs.Held.{WideRows}
use Rattle.windows.proofs.FlatLemmas.{rows_fit, rows_up_to}
use Rattle.windows.proofs.TableLemmas.{IsFlat-between, cut_rows-between}
use Rattle.windows.proofs.row_deque.RowDeque.part.Goals as goal

pub overflow_mul-from : goal.overflow_mul-from
overflow_mul-from c =
    let s = c.self.inside in
    let le = rows_up_to s.width s.len c.args.to s.values.items c.args.self.now.rows (ap (λ (r : WideRows). r.rows) c.self.view_is) c.requires.within in
    omega (arith, rows_fit s.width s.len c.args.«from» s.values.items c.self.invariant (omega (arith, le, c.requires.ordered)))

pub overflow_mul-to : goal.overflow_mul-to
overflow_mul-to c =
    let s = c.self.inside in
    let le = rows_up_to s.width s.len c.args.to s.values.items c.args.self.now.rows (ap (λ (r : WideRows). r.rows) c.self.view_is) c.requires.within in
    omega (arith, rows_fit s.width s.len c.args.to s.values.items c.self.invariant le)

pub values_between-requires-clause-within : goal.values_between-requires-clause-within
values_between-requires-clause-within c =
    let s = c.self.inside in
    let le = rows_up_to s.width s.len c.args.to s.values.items c.args.self.now.rows (ap (λ (r : WideRows). r.rows) c.self.view_is) c.requires.within in
    omega (arith, rows_fit s.width s.len c.args.to s.values.items c.self.invariant le)

pub of-requires : goal.of-requires
of-requires c =
    let s = c.self.inside in
    let le = rows_up_to s.width s.len c.args.to s.values.items c.args.self.now.rows (ap (λ (r : WideRows). r.rows) c.self.view_is) c.requires.within in
    IsFlat-between s.width s.len c.args.«from» c.args.to s.values.items c.in_ok-values.values.items c.requires.ordered le c.self.invariant c.in_ok-values.ensures

pub returns : goal.returns
returns c =
    let s = c.self.inside in
    let is = ap (λ (r : WideRows). r.rows) c.self.view_is in
    let le = rows_up_to s.width s.len c.args.to s.values.items c.args.self.now.rows is c.requires.within in
    c.of.ensures ∙ cut_rows-between s.width s.len c.args.«from» c.args.to s.values.items c.in_ok-values.values.items c.args.self.now.rows c.requires.ordered le is c.in_ok-values.ensures

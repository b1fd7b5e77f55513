use Rattle.std.proofs.Common.{◌+◌, ◌*◌, ◌≤◌, ◌∙◌, add-mul, ap, arith, length, slice_range, sym}
use Rattle.op_queue.proofs.BoundLemmas.{length-slice_range}
use Rattle.windows.specs.Held.{WideRows}
use Rattle.windows.proofs.FlatLemmas.{rows_fit, rows_up_to}
use Rattle.windows.proofs.LeavingLemmas.{rows_signed, slice_front}
use Rattle.windows.proofs.row_deque.RowDeque.signed.Goals as goal

pub overflow_mul-start : goal.overflow_mul-start
overflow_mul-start c =
    let le : c.args.«from» + c.args.count ≤ c.self.inside.len = rows_up_to c.self.inside.width c.self.inside.len (c.args.«from» + c.args.count) c.self.inside.values.items c.args.self.now.rows (ap (λ (r : WideRows). r.rows) c.self.view_is) c.requires.within in
    omega (arith, rows_fit c.self.inside.width c.self.inside.len (c.args.«from» + c.args.count) c.self.inside.values.items c.self.invariant le, add-mul c.args.«from» c.args.count c.self.inside.width)

pub overflow_add-end : goal.overflow_add-end
overflow_add-end c =
    let le : c.args.«from» + c.args.count ≤ c.self.inside.len = rows_up_to c.self.inside.width c.self.inside.len (c.args.«from» + c.args.count) c.self.inside.values.items c.args.self.now.rows (ap (λ (r : WideRows). r.rows) c.self.view_is) c.requires.within in
    omega (arith, rows_fit c.self.inside.width c.self.inside.len (c.args.«from» + c.args.count) c.self.inside.values.items c.self.invariant le, add-mul c.args.«from» c.args.count c.self.inside.width)

pub returns-then-end-front : goal.returns-then-end-front
returns-then-end-front c =
    let is = ap (λ (r : WideRows). r.rows) c.self.view_is in
    let w = c.self.inside.width in
    let le : c.args.«from» + c.args.count ≤ c.self.inside.len = rows_up_to w c.self.inside.len (c.args.«from» + c.args.count) c.self.inside.values.items c.args.self.now.rows is c.requires.within in
    let start = c.args.«from» * w in
    let end = c.args.«from» * w + c.args.count * w in
    c.in_ok-batch.ensures
    ∙ rows_signed w c.self.inside.len c.args.«from» c.args.count c.args.enters c.self.inside.values.items _ c.args.self.now.rows le is
    (sym (slice_front c.as_slices.result.0.now c.as_slices.result.1.now start end (omega arith) c.if-end-front.true) ∙ ap (λ l. slice_range l start end) c.as_slices.ensures.items)

pub values_between-requires-clause-within : goal.values_between-requires-clause-within
values_between-requires-clause-within c =
    let le : c.args.«from» + c.args.count ≤ c.self.inside.len = rows_up_to c.self.inside.width c.self.inside.len (c.args.«from» + c.args.count) c.self.inside.values.items c.args.self.now.rows (ap (λ (r : WideRows). r.rows) c.self.view_is) c.requires.within in
    omega (arith, rows_fit c.self.inside.width c.self.inside.len (c.args.«from» + c.args.count) c.self.inside.values.items c.self.invariant le, add-mul c.args.«from» c.args.count c.self.inside.width)

pub signed_rows-requires-2-clause-whole : goal.signed_rows-requires-2-clause-whole
signed_rows-requires-2-clause-whole c =
    let w = c.self.inside.width in
    let le : c.args.«from» + c.args.count ≤ c.self.inside.len = rows_up_to w c.self.inside.len (c.args.«from» + c.args.count) c.self.inside.values.items c.args.self.now.rows (ap (λ (r : WideRows). r.rows) c.self.view_is) c.requires.within in
    let fits : c.args.«from» * w + c.args.count * w ≤ length c.self.inside.values.items = omega (arith, rows_fit w c.self.inside.len (c.args.«from» + c.args.count) c.self.inside.values.items c.self.invariant le, add-mul c.args.«from» c.args.count w) in
    ap length (c.deref.ensures.value ∙ c.in_ok-values.ensures)
    ∙ length-slice_range c.self.inside.values.items (c.args.«from» * w) (c.args.«from» * w + c.args.count * w) fits
    ∙ omega arith

pub returns : goal.returns
returns c =
    let is = ap (λ (r : WideRows). r.rows) c.self.view_is in
    let w = c.self.inside.width in
    let le : c.args.«from» + c.args.count ≤ c.self.inside.len = rows_up_to w c.self.inside.len (c.args.«from» + c.args.count) c.self.inside.values.items c.args.self.now.rows is c.requires.within in
    c.in_ok-batch-2.ensures
    ∙ rows_signed w c.self.inside.len c.args.«from» c.args.count c.args.enters c.self.inside.values.items c.deref.result.now c.args.self.now.rows le is (c.deref.ensures.value ∙ c.in_ok-values.ensures)

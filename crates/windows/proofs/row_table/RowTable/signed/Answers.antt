use Rattle.std.proofs.Common.{◌+◌, ◌*◌, ◌≤◌, ◌∙◌, ap, arith, length, slice_range}
use Rattle.op_queue.proofs.BoundLemmas.{length-slice_range}
use Rattle.windows.proofs.FlatLemmas.{rows_up_to}
use Rattle.windows.proofs.LeavingLemmas.{rows_signed}
use Rattle.windows.proofs.TableLemmas.{part_fits}
use Rattle.windows.proofs.row_table.RowTable.signed.Goals as goal

pub overflow_mul-start : goal.overflow_mul-start
overflow_mul-start c =
    let s = c.self.inside in
    omega (arith, part_fits s.width s.len c.args.«from» c.args.count s.values.items c.args.self.now c.self.invariant c.self.view_is c.requires.within)

pub overflow_add-end : goal.overflow_add-end
overflow_add-end c =
    let s = c.self.inside in
    omega (arith, part_fits s.width s.len c.args.«from» c.args.count s.values.items c.args.self.now c.self.invariant c.self.view_is c.requires.within)

pub between-values-requires-clause-within : goal.between-values-requires-clause-within
between-values-requires-clause-within c =
    let s = c.self.inside in
    omega (arith, part_fits s.width s.len c.args.«from» c.args.count s.values.items c.args.self.now c.self.invariant c.self.view_is c.requires.within, ap length c.deref.ensures.value)

pub signed_rows-requires-clause-whole : goal.signed_rows-requires-clause-whole
signed_rows-requires-clause-whole c =
    let s = c.self.inside in
    let w = s.width in
    let fits = part_fits w s.len c.args.«from» c.args.count s.values.items c.args.self.now c.self.invariant c.self.view_is c.requires.within in
    ap length c.between-values.ensures
    ∙ length-slice_range c.deref.result.now (c.args.«from» * w) (c.args.«from» * w + c.args.count * w) (omega (arith, fits, ap length c.deref.ensures.value))
    ∙ omega arith

pub returns : goal.returns
returns c =
    let s = c.self.inside in
    let le : c.args.«from» + c.args.count ≤ s.len = rows_up_to s.width s.len (c.args.«from» + c.args.count) s.values.items c.args.self.now c.self.view_is c.requires.within in
    c.in_ok-batch.ensures
    ∙ rows_signed s.width s.len c.args.«from» c.args.count c.args.enters s.values.items c.between-values.result.now c.args.self.now le c.self.view_is
    (c.between-values.ensures ∙ ap (λ vs. slice_range vs (c.args.«from» * s.width) (c.args.«from» * s.width + c.args.count * s.width)) c.deref.ensures.value)

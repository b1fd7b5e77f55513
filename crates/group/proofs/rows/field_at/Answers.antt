use Rattle.std.proofs.Common.{◌∙◌, ◌≤◌, ℤ, Option, None, List, get_or, sym, ap, arith}
use Rattle.column.specs.Rows.{width}
use Rattle.group.specs.Batches.{row_in}
use Rattle.group.proofs.BatchLemmas.{other_field, past_field, own_field}
use Rattle.group.proofs.rows.field_at.Goals as goal

pub returns-then-column-ne0 : goal.returns-then-column-ne0
returns-then-column-ne0 c = c.null.ensures ∙ sym (other_field c.args.column (row_in c.args.batch.now c.args.place).1 c.if-column-ne0.true)

pub returns-then-column-width : goal.returns-then-column-width
returns-then-column-width c =
    let rs = c.args.batch.now in
    let past : width rs ≤ c.args.column.column = omega (arith, c.if-column-width.true, c.width.ensures) in
    c.null-then-column-width.ensures ∙ sym (past_field c.args.column rs c.args.place (width rs) c.if-column-ne0.false c.len.ensures.batch.one_width c.requires past)

pub returns : goal.returns
returns c = c.get.ensures ∙ ap (λ (vs : List (Option ℤ)). get_or vs c.args.place None) c.column.ensures ∙ own_field c.args.column c.args.batch.now c.args.place c.if-column-ne0.false c.requires

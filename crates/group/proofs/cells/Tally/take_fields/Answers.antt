use Rattle.std.proofs.Common.{◌∙◌, ℤ, Option, List, sym, subst, arith}
use Rattle.std.specs.List.{All}
use Rattle.values.specs.Ranges.{IsAnswerValue}
use Rattle.column.specs.Rows.{width}
use Rattle.group.specs.Batches.{leaving, fields}
use Rattle.group.proofs.BatchLemmas.{other_source, past_columns, own_fields, nulls_in_range, nulls_are_nothing}
use Rattle.group.proofs.cells.Tally.take_fields.Goals as goal

pub returns-then-column-ne0-clause-tally : goal.returns-then-column-ne0-clause-tally
returns-then-column-ne0-clause-tally c =
    let rs = c.args.batch.now in
    sym (nulls_are_nothing c.args.keeps (leaving rs) (fields c.args.column rs) c.args.self.now (other_source c.args.column rs c.if-column-ne0.true))

pub returns-then-column-ne0-clause-range : goal.returns-then-column-ne0-clause-range
returns-then-column-ne0-clause-range c = nulls_in_range (fields c.args.column c.args.batch.now) (other_source c.args.column c.args.batch.now c.if-column-ne0.true)

pub returns-then-column-width-clause-tally : goal.returns-then-column-width-clause-tally
returns-then-column-width-clause-tally c =
    let rs = c.args.batch.now in
    sym (nulls_are_nothing c.args.keeps (leaving rs) (fields c.args.column rs) c.args.self.now (past_columns c.args.column rs (width rs) c.if-column-ne0.false c.len.ensures.batch.one_width (omega (arith, c.if-column-width.true, c.width.ensures))))

pub returns-then-column-width-clause-range : goal.returns-then-column-width-clause-range
returns-then-column-width-clause-range c =
    let rs = c.args.batch.now in
    nulls_in_range (fields c.args.column rs) (past_columns c.args.column rs (width rs) c.if-column-ne0.false c.len.ensures.batch.one_width (omega (arith, c.if-column-width.true, c.width.ensures)))

pub returns-clause-range : goal.returns-clause-range
returns-clause-range c = subst (λ (vs : List (Option ℤ)). All IsAnswerValue vs) (c.column.ensures ∙ sym (own_fields c.args.column c.args.batch.now c.if-column-ne0.false)) c.in_ok-take_lane.ensures.range

use Rattle.std.proofs.Common.{◌≡◌, ◌+◌, ◌∙◌, ap, sym, drop, take, get_or, length, true, false}
use Rattle.std.specs.List.{list_all}
use Rattle.std.proofs.lemmas.List.{drop_all}
use Rattle.reference.specs.Commands.{is_stream_value}
use Rattle.reference.specs.WhereOf.{first_other_in}
use Rattle.reference.proofs.WhereLemmas.{row-found, row-passed, row-left, row-none}
use Rattle.reference.proofs.where_of.first_with_other_value.Goals as goal

pub returns-then-not-all_stream_values : goal.returns-then-not-all_stream_values
returns-then-not-all_stream_values c =
    let bad : list_all is_stream_value (take (get_or c.args.widths.now c.loop-row.row 0) c.loop-row.rest.now) ≡ false =
    sym (ap (list_all is_stream_value) c.split_at.ensures.front) ∙ sym c.all_stream_values.ensures ∙ c.if-not-all_stream_values.true in
    sym (row-found c.args.widths.now c.loop-row.rest.now c.loop-row.row c.loop-row-test.true bad) ∙ c.loop-row.invariant.0

pub loop-row-preserved : goal.loop-row-preserved
loop-row-preserved c =
    let good : list_all is_stream_value (take (get_or c.args.widths.now c.loop-row.row 0) c.loop-row.rest.now) ≡ true =
    sym (ap (list_all is_stream_value) c.split_at.ensures.front) ∙ sym c.all_stream_values.ensures ∙ c.if-not-all_stream_values.false in (
      ap (first_other_in (c.loop-row.row + 1) (drop (c.loop-row.row + 1) c.args.widths.now)) c.split_at.ensures.back
          ∙ sym (row-passed c.args.widths.now c.loop-row.rest.now c.loop-row.row c.loop-row-test.true good) ∙ c.loop-row.invariant.0,
      row-left c.args.widths.now c.loop-row.rest.now c.loop-row.row c.loop-row-test.true c.loop-row.invariant.1
          ∙ sym (ap length c.split_at.ensures.back),
    )

pub returns : goal.returns
returns c =
    sym (row-none c.loop-row.rest.now c.loop-row.row)
    ∙ ap (λ ws. first_other_in c.loop-row.row ws c.loop-row.rest.now) (sym (drop_all c.loop-row.row c.args.widths.now c.loop-row-test.false))
    ∙ c.loop-row.invariant.0

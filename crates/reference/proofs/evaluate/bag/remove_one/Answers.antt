use Rattle.std.proofs.Common.{◌≡◌, ◌<◌, length, get_or, true, sym, ◌∙◌, ap, arith, List}
use Rattle.std.proofs.lemmas.List.{get_or_default}
use Rattle.reference.proofs.RowLemmas.{CodeRow, rows_without, rows_without_none}
use Rattle.values.specs.Row.{row_cmp, same_row}
use Rattle.values.specs.Bag.{without}
use Rattle.reference.specs.Views.{rows_of}
use Rattle.reference.proofs.evaluate.bag.remove_one.Goals as goal

pub returns-then-same_rows : goal.returns-then-same_rows
returns-then-same_rows c =
    let here : c.loop-i.i < length c.loop-i.rows.items = omega arith in
    let at : same_row c.args.row.now.items (get_or c.loop-i.rows.items c.loop-i.i c.args.row.now).items ≡ true
    = ap (λ (v : CodeRow). same_row c.args.row.now.items v.items) (get_or_default c.loop-i.rows.items c.loop-i.i c.args.row.now c.index.result.now here ∙ sym c.index.ensures)
    ∙ sym c.same_rows.ensures ∙ c.if-same_rows.true in
    ap rows_of c.remove.ensures.items
    ∙ rows_without c.args.row.now c.loop-i.rows.items c.loop-i.i here c.loop-i.invariant.2 at
    ∙ ap (λ (v : List CodeRow). without row_cmp c.args.row.now.items (rows_of v)) c.loop-i.invariant.0

pub returns : goal.returns
returns c =
    rows_without_none c.args.row.now c.loop-i.rows.items (λ k d lt. c.loop-i.invariant.2 k d (omega arith))
    ∙ ap (λ (v : List CodeRow). without row_cmp c.args.row.now.items (rows_of v)) c.loop-i.invariant.0

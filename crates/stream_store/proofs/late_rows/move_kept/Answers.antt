use Rattle.std.proofs.Common.{◌≡◌, ◌<◌, ◌+◌, ◌∙◌, [], ap, arith, get_or, length, subst, sym, true, false, ℕ, List}
use Rattle.values.specs.Row.{Row}
use Rattle.stream_store.specs.LateRows.{rows_in}
use Rattle.stream_store.specs.Starts.{is_read, row_read}
use Rattle.stream_store.proofs.FlatLemmas.{length-rows_in, rows_in-at}
use Rattle.stream_store.proofs.KeepLemmas.{AreMoved, moved-end, moved-no, moved-yes}
use Rattle.stream_store.proofs.late_rows.move_kept.Goals.{then-is_read, else-is_read}
use Rattle.stream_store.proofs.late_rows.move_kept.Goals as goal

pub index-number-requires : goal.index-number-requires
index-number-requires c =
    let l = c.loop-place in
    omega (arith, l.invariant.moved.long, length-rows_in c.args.width l.numbers.items l.values.items, length-rows_in c.args.width c.args.numbers.now.items c.args.values.now.items, c.len-len.ensures, c.args.numbers.now.ok, l.numbers.ok, c.loop-place-test.true)

pub move_row-requires-clause-within : goal.move_row-requires-clause-within
move_row-requires-clause-within c =
    let l = c.loop-place in
    omega (arith, l.invariant.moved.long, length-rows_in c.args.width l.numbers.items l.values.items, length-rows_in c.args.width c.args.numbers.now.items c.args.values.now.items, c.len-len.ensures, c.args.numbers.now.ok, c.loop-place-test.true)

pub loop-place-preserved : goal.loop-place-preserved
loop-place-preserved c =
    let l = c.loop-place in
    let width = c.args.width in
    let p = row_read c.args.starts.now c.args.instant in
    let old : List (ℕ × Row) = rows_in width c.args.numbers.now.items c.args.values.now.items in
    let rows : List (ℕ × Row) = rows_in width l.numbers.items l.values.items in
    let number = c.index-number.result.now in
    let d : ℕ × Row = (number, []) in
    let there : l.place < length old = omega (arith, length-rows_in width c.args.numbers.now.items c.args.values.now.items, c.len-len.ensures, c.args.numbers.now.ok, c.loop-place-test.true) in
    let within : l.place < length l.numbers.items = omega (arith, there, l.invariant.moved.long, length-rows_in width l.numbers.items l.values.items) in
    let tested : p (get_or rows l.place d) ≡ c.is_read.result =
    ap p (rows_in-at width l.place l.numbers.items l.values.items number d within)
    ∙ ap (λ m. is_read c.args.starts.now m c.args.instant) (sym c.index-number.ensures)
    ∙ sym c.is_read.ensures in
    elim c.if-is_read.branch [
      | then-is_read w ↦
          rw (w.numbers-is, w.values-is, w.count-is)
          (record {
            full = w.move_row.ensures.full;
            moved = subst (λ (rs : List (ℕ × Row)). AreMoved p (l.count + 1) (l.place + 1) old rs) (sym (w.move_row.ensures.rows d)) (moved-yes p l.count l.place old rows d there (tested ∙ w.if-is_read.true) l.invariant.moved);
          })
      | else-is_read w ↦
          rw (w.numbers-is, w.values-is, w.count-is)
          (record {
            full = l.invariant.full;
            moved = moved-no p l.count l.place old rows d there (tested ∙ w.if-is_read.false) l.invariant.moved;
          })
    ]

pub returns-clause-within : goal.returns-clause-within
returns-clause-within c =
    let l = c.loop-place in
    omega (arith, l.invariant.moved.le, l.invariant.moved.long, length-rows_in c.args.width l.numbers.items l.values.items, length-rows_in c.args.width c.args.numbers.now.items c.args.values.now.items, c.len-len.ensures, c.args.numbers.now.ok, l.auto.place-end)

pub returns-clause-rows : goal.returns-clause-rows
returns-clause-rows c =
    let l = c.loop-place in
    let width = c.args.width in
    moved-end (row_read c.args.starts.now c.args.instant) l.count l.place (rows_in width c.args.numbers.now.items c.args.values.now.items) (rows_in width l.numbers.items l.values.items)
    (omega (arith, length-rows_in width c.args.numbers.now.items c.args.values.now.items, c.len-len.ensures, c.args.numbers.now.ok)) l.invariant.moved

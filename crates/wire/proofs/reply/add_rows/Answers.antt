use Rattle.std.proofs.Common.{◌≡◌, ◌+◌, ◌++◌, [], refl, sym, ap, take, to_z, of_z, w64, arith}
use Rattle.std.proofs.lemmas.Int.{ints, to_z-of_z}
use Rattle.wire.specs.Printed.{row_text, rows_text}
use Rattle.wire.specs.Commas.{comma_before}
use Rattle.wire.proofs.Sinks.{append_nothing}
use Rattle.wire.proofs.Printing.{writes_both, writes_held, write_text}
use Rattle.wire.proofs.Listed.{has_item, no_rows, rows_more}
use Rattle.wire.proofs.reply.add_rows.Goals.{in-Some, in_default}
use Rattle.wire.proofs.reply.add_rows.Goals as goal

pub loop-number-init : goal.loop-number-init
loop-number-init g c =
    let page = c.args.page.now in
    write_text (rows_text []) no_rows (writes_held _ _ page page [] refl (sym (append_nothing page.bytes.items)))

pub loop-number-preserved : goal.loop-number-preserved
loop-number-preserved g c =
    let rows = c.args.rows.now in
    let number = c.loop-number.number in
    elim c.match-get.branch [
      | in-Some w ↦
          let row = w.in-Some.row.now in
          let at : to_z w64 (of_z w64 w.in-Some.at) ≡ w.in-Some.at = grind (arith, ints, to_z-of_z) in
          let next = write_text (comma_before number ++ row_text (w.in-Some.at, row)) (ap (λ z. comma_before number ++ row_text (z, row)) at) w.add_numbered_row.ensures in
          let both = writes_both c.loop-number.invariant next in
          rw (w.sink-is, w.page-is) (write_text (rows_text (take (number + 1) rows)) (rows_more rows number (w.in-Some.at, row) w.in-Some.ensures.answer) both)
      | in_default w ↦ absurd (has_item rows number w.in_default.ensures.answer (omega (arith, c.loop-number-test.true, c.len-number-end.ensures, c.loop-number.auto.number-end)))
    ]

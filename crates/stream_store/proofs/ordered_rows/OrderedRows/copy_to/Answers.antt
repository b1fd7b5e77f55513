use Rattle.std.proofs.Common.{◌∙◌, arith}
use Rattle.stream_store.proofs.RisingLemmas.{copied_on}
use Rattle.stream_store.proofs.ordered_rows.OrderedRows.copy_to.Goals as goal

pub loop-number-preserved : goal.loop-number-preserved
loop-number-preserved c = record {
  width = c.copy_row.ensures.width ∙ c.loop-number.invariant.width;
  copies = copied_on c.args.place c.loop-number.number c.args.self.now.rows c.reserve.new.self.elements c.loop-number.rows.elements c.copy_row.new.rows.elements (search arith) (search arith)
      c.in_ok-copy_row.ensures.copy c.loop-number.invariant.copies;
}

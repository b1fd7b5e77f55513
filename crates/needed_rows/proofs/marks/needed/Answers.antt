use Rattle.needed_rows.proofs.ReaderLemmas.{all_marked}
use Rattle.needed_rows.proofs.marks.needed.Goals as goal

pub returns : goal.returns
returns c = all_marked c.args.rows.now c.args.readers.now c.loop-reader.reader-index c.loop-reader.marks.items c.loop-reader-test.false c.loop-reader.invariant.same c.loop-reader.invariant.marked

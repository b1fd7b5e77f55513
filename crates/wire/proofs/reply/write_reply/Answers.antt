use Rattle.wire.specs.Printed.{line_of, answer_of}
use Rattle.wire.proofs.Sinks.{append_nothing}
use Rattle.wire.proofs.Printing.{line_written, line_failed, write_text, writes_both}
use Rattle.wire.proofs.reply.write_reply.Goals as goal

pub returns-then-page-clause-written : goal.returns-then-page-clause-written
returns-then-page-clause-written g c =
    let line = line_of (answer_of c.args.reply.now) in
    line_written _ _ _ _ c.new-page.result c.flush.new.self line c.new-page.ensures.sound c.new-page.ensures.empty c.if-page.true c.flush.ensures.empty
    (write_text line (append_nothing line) (writes_both c.add_reply.ensures c.flush.ensures.writes))

pub returns-else-page-clause-written : goal.returns-else-page-clause-written
returns-else-page-clause-written g c =
    let line = line_of (answer_of c.args.reply.now) in
    line_failed _ _ _ _ c.new-page.result c.flush.new.self line c.new-page.ensures.sound c.new-page.ensures.empty c.if-page.false c.flush.ensures.empty
    (write_text line (append_nothing line) (writes_both c.add_reply.ensures c.flush.ensures.writes))

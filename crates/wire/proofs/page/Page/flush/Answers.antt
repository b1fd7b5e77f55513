use Rattle.std.proofs.Common.{◌∙◌, sym, []}
use Rattle.wire.proofs.Sinks.{append_nothing}
use Rattle.wire.proofs.Printing.{writes_put}
use Rattle.wire.proofs.page.Page.flush.Goals as goal

pub returns-clause-writes : goal.returns-clause-writes
returns-clause-writes g c =
    writes_put _ _ _ _ _ _ c.put.result c.as_slice.result.now [] c.if-not-self.false (append_nothing c.args.self.now.bytes.items ∙ sym c.as_slice.ensures.value) c.is_ok-self.ensures.value c.clear-2.ensures c.put.ensures

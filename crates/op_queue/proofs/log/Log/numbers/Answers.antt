use Rattle.std.proofs.Common.{◌∙◌, ap, map, sym, take}
use Rattle.op_queue.specs.Logs.{Closed}
use Rattle.op_queue.specs.Tables.{lists}
use Rattle.op_queue.proofs.MarkLemmas.{shown-numbers}
use Rattle.op_queue.proofs.log.Log.numbers.Goals as goal

pub returns : goal.returns
returns c =
    let l = c.self.inside in
    ap (take l.len) c.deref.ensures.value
    ∙ sym (shown-numbers l.len l.instants.items l.numbers.items (lists l.columns.items) c.self.invariant.table)
    ∙ ap (λ (l : Closed). map (λ e. e.arrival) l.elements) c.self.view_is

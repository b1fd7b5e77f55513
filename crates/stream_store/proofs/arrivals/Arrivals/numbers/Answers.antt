use Rattle.std.proofs.Common.{◌∙◌, ap, map, sym}
use Rattle.op_queue.proofs.TableLemmas.{arrived-numbers}
use Rattle.stream_store.specs.Arrivals.{Arrived}
use Rattle.stream_store.proofs.arrivals.Arrivals.numbers.Goals as goal

pub returns : goal.returns
returns c =
    let a = c.self.inside in
    c.deref.ensures.value
    ∙ sym (arrived-numbers a.width a.instants.items a.numbers.items a.values.items c.self.invariant.counted)
    ∙ ap (λ (r : Arrived). map (λ e. e.arrival) r.elements) c.self.view_is

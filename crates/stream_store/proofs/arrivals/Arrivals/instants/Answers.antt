use Rattle.std.proofs.Common.{◌∙◌, ap, map, sym}
use Rattle.op_queue.proofs.TableLemmas.{arrived-instants}
use Rattle.stream_store.specs.Arrivals.{Arrived}
use Rattle.stream_store.proofs.arrivals.Arrivals.instants.Goals as goal

pub returns : goal.returns
returns c =
    let a = c.self.inside in
    c.deref.ensures.value
    ∙ sym (arrived-instants a.width a.instants.items a.numbers.items a.values.items c.self.invariant.counted)
    ∙ ap (λ (r : Arrived). map (λ e. e.instant) r.elements) c.self.view_is

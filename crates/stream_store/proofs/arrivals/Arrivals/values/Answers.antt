use Rattle.std.proofs.Common.{◌∙◌, ap, sym}
use Rattle.std.specs.List.{flat_map}
use Rattle.stream_store.specs.Arrivals.{Arrived}
use Rattle.stream_store.proofs.ArrivalLemmas.{arrived-values}
use Rattle.stream_store.proofs.arrivals.Arrivals.values.Goals as goal

pub returns : goal.returns
returns c =
    let a = c.self.inside in
    c.deref.ensures.value
    ∙ sym (arrived-values a.width a.instants.items a.numbers.items a.values.items c.self.invariant.counted c.self.invariant.full)
    ∙ ap (λ (r : Arrived). flat_map (λ e. e.row) r.elements) c.self.view_is

use Rattle.std.proofs.Common.{◌∙◌, ap, length, map, sym}
use Rattle.reference.proofs.KeptLemmas.{widths_back}
use Rattle.reference.proofs.new_rows.NewRows.widths.Goals as goal

pub returns : goal.returns
returns c =
    let rows = c.self.inside in
    c.deref.ensures.value
    ∙ sym (widths_back rows.instants.items rows.widths.items rows.values.items c.self.invariant.0 c.self.invariant.1)
    ∙ ap (map (λ r. length r.1)) c.self.view_is

use Rattle.std.proofs.Common.{◌∙◌, ap, map, sym}
use Rattle.reference.proofs.KeptLemmas.{instants_back}
use Rattle.reference.proofs.new_rows.NewRows.instants.Goals as goal

pub returns : goal.returns
returns c =
    let rows = c.self.inside in
    c.deref.ensures.value
    ∙ sym (instants_back rows.instants.items rows.widths.items rows.values.items c.self.invariant.0)
    ∙ ap (map (λ r. r.0)) c.self.view_is

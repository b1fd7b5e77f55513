use Rattle.std.proofs.Common.{◌∙◌, ap, length}
use Rattle.reference.specs.Appended.{values_of}
use Rattle.reference.proofs.KeptLemmas.{values-flat}
use Rattle.reference.proofs.new_rows.NewRows.count_values.Goals as goal

pub returns : goal.returns
returns c =
    let rows = c.self.inside in
    c.len.ensures ∙ rows.values.ok.0
    ∙ ap length (values-flat rows.instants.items rows.widths.items rows.values.items c.self.invariant.0 c.self.invariant.1)
    ∙ ap (λ rs. length (values_of rs)) c.self.view_is

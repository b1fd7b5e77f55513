use Rattle.std.proofs.Common.{◌∙◌, ap}
use Rattle.reference.specs.Appended.{values_of}
use Rattle.reference.proofs.KeptLemmas.{values-flat}
use Rattle.reference.proofs.new_rows.NewRows.values.Goals as goal

pub returns : goal.returns
returns c =
    let rows = c.self.inside in
    c.deref.ensures.value
    ∙ values-flat rows.instants.items rows.widths.items rows.values.items c.self.invariant.0 c.self.invariant.1
    ∙ ap values_of c.self.view_is

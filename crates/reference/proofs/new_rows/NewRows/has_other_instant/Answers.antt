use Rattle.std.proofs.Common.{◌∙◌, ap, not}
use Rattle.std.specs.List.{list_any}
use Rattle.reference.specs.Commands.{is_instant}
use Rattle.reference.proofs.NewRowLemmas.{any-instants}
use Rattle.reference.proofs.new_rows.NewRows.has_other_instant.Goals as goal

pub returns : goal.returns
returns c =
    c.any_no_instant.ensures ∙ ap (list_any (λ at. not (is_instant at))) c.deref.ensures.value ∙ any-instants (λ at. not (is_instant at)) c.self.inside.instants.items c.self.inside.widths.items c.self.inside.values.items c.self.invariant.0
    ∙ ap (list_any (λ r. not (is_instant r.0))) c.self.view_is

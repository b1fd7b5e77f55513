use Rattle.std.proofs.Common.{◌∙◌, ap, int_lt}
use Rattle.std.proofs.Common.{w64}
use Rattle.std.proofs.lemmas.Int.{to_z-of_z}
use Rattle.std.specs.List.{list_any}
use Rattle.reference.proofs.NewRowLemmas.{any-instants}
use Rattle.reference.proofs.new_rows.NewRows.has_late_row.Goals as goal

pub returns : goal.returns
returns c =
    (simp (to_z-of_z w64 c.args.first_open c.ranges.first_open) at c.any_below.ensures) ∙ ap (list_any (λ at. int_lt at c.args.first_open)) c.deref.ensures.value ∙ any-instants (λ at. int_lt at c.args.first_open) c.self.inside.instants.items c.self.inside.widths.items c.self.inside.values.items c.self.invariant.0
    ∙ ap (list_any (λ r. int_lt r.0 c.args.first_open)) c.self.view_is

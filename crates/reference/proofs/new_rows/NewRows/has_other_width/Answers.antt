use Rattle.std.proofs.Common.{◌∙◌, ap, not, length, ◌==◌}
use Rattle.std.specs.List.{list_any}
use Rattle.reference.proofs.NewRowLemmas.{any-widths}
use Rattle.reference.proofs.new_rows.NewRows.has_other_width.Goals as goal

pub returns : goal.returns
returns c =
    c.any_differs.ensures ∙ ap (list_any (λ w. not (w == c.args.width))) c.deref.ensures.value ∙ any-widths (λ w. not (w == c.args.width)) c.self.inside.instants.items c.self.inside.widths.items c.self.inside.values.items c.self.invariant.0 c.self.invariant.1
    ∙ ap (list_any (λ r. not (length r.1 == c.args.width))) c.self.view_is

use Rattle.std.proofs.Common.{◌∙◌, ap, not}
use Rattle.std.specs.List.{list_any, list_all}
use Rattle.reference.specs.Commands.{is_stream_value}
use Rattle.reference.proofs.NewRowLemmas.{all-values}
use Rattle.reference.proofs.new_rows.NewRows.has_other_value.Goals as goal

pub returns : goal.returns
returns c =
    ap not (c.all_stream_values.ensures ∙ ap (list_all is_stream_value) c.deref.ensures.value) ∙ all-values (is_stream_value) c.self.inside.instants.items c.self.inside.widths.items c.self.inside.values.items c.self.invariant.0 c.self.invariant.1
    ∙ ap (list_any (λ r. not (list_all is_stream_value r.1))) c.self.view_is

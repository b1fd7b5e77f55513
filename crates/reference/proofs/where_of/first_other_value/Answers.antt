use Rattle.std.proofs.Common.{◌∙◌, ap, sym, length, sum}
use Rattle.reference.specs.WhereOf.{first_other_in}
use Rattle.reference.proofs.WhereLemmas.{sum-widths, rows-flat}
use Rattle.reference.proofs.where_of.first_other_value.Goals as goal

pub first_with_other_value-requires : goal.first_with_other_value-requires
first_with_other_value-requires c =
    ap sum c.widths.ensures ∙ sum-widths c.args.rows.now ∙ sym (ap length c.values.ensures)

pub returns : goal.returns
returns c =
    c.first_with_other_value.ensures
    ∙ ap (λ ws. first_other_in 0 ws c.values.result.now) c.widths.ensures
    ∙ ap (first_other_in 0 _) c.values.ensures
    ∙ rows-flat c.args.rows.now

use Rattle.std.proofs.Common.{◌∙◌, ap, not, length, ◌==◌, position, ℤ, List, Option}
use Rattle.reference.proofs.WhereLemmas.{position-map}
use Rattle.reference.proofs.where_of.first_other_width.Goals as goal

pub returns : goal.returns
returns c =
    c.first_other.ensures ∙ ap (position (λ w. not (w == c.args.width))) c.widths.ensures
    ∙ position-map (λ (r : ℤ × List (Option ℤ)). length r.1) (λ w. not (w == c.args.width)) c.args.rows.now

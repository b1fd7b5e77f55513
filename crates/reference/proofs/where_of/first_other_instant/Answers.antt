use Rattle.std.proofs.Common.{◌∙◌, ap, not, position, ℤ, List, Option}
use Rattle.reference.specs.Commands.{is_instant}
use Rattle.reference.proofs.WhereLemmas.{position-map}
use Rattle.reference.proofs.where_of.first_other_instant.Goals as goal

pub returns : goal.returns
returns c =
    c.first_no_instant.ensures ∙ ap (position (λ at. not (is_instant at))) c.instants.ensures
    ∙ position-map (λ (r : ℤ × List (Option ℤ)). r.0) (λ at. not (is_instant at)) c.args.rows.now

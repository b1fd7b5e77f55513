use Rattle.std.proofs.Common.{◌∙◌, ap, position, int_le, ℤ, List, Option, w64}
use Rattle.std.proofs.lemmas.Int.{to_z-of_z}
use Rattle.reference.proofs.WhereLemmas.{position-map}
use Rattle.reference.proofs.where_of.first_late.Goals as goal

pub returns : goal.returns
returns c =
    (simp (to_z-of_z w64 c.args.closed c.ranges.closed) at c.first_up_to.ensures)
    ∙ ap (position (λ at. int_le at c.args.closed)) c.instants.ensures
    ∙ position-map (λ (r : ℤ × List (Option ℤ)). r.0) (λ at. int_le at c.args.closed) c.args.rows.now

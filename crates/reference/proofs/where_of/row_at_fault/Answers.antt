use Rattle.std.proofs.Common.{◌∙◌, ap, sym, w64}
use Rattle.std.proofs.lemmas.Int.{to_z-of_z}
use Rattle.reference.specs.WhereOf.{row_at_fault}
use Rattle.reference.proofs.where_of.row_at_fault.Goals as goal

pub returns-in-Late : goal.returns-in-Late
returns-in-Late c =
    (simp (to_z-of_z w64 c.args.closed c.ranges.closed) at c.first_late.ensures)
    ∙ ap (λ fault. row_at_fault fault c.args.width c.args.closed c.args.rows.now) (sym c.in-Late.is)

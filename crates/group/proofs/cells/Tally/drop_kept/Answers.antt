use Rattle.std.proofs.Common.{◌<◌, true, false, sym, subst}
use Rattle.std.specs.List.{All}
use Rattle.std.specs.Map.{values_of}
use Rattle.group.specs.Cells.{Values}
use Rattle.group.proofs.BackLemmas.{values_some}
use Rattle.group.proofs.cells.Tally.drop_kept.Goals as goal

pub invariant_of-self : goal.invariant_of-self
invariant_of-self c =
    subst (λ (es : Values). All (λ m. 0 < m) (values_of es)) (sym c.remove_value.ensures) (values_some false true c.args.value c.self.inside.values.entries c.self.invariant)

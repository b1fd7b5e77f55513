use Rattle.std.proofs.Common.{◌<◌, sym, subst}
use Rattle.std.specs.List.{All}
use Rattle.std.specs.Map.{values_of}
use Rattle.group.specs.Cells.{Values}
use Rattle.group.proofs.BackLemmas.{values_some}
use Rattle.group.proofs.cells.Tally.keep.Goals as goal

pub invariant_of-self-2 : goal.invariant_of-self-2
invariant_of-self-2 c =
    subst (λ (es : Values). All (λ m. 0 < m) (values_of es)) (sym c.in_ok-keep_value.ensures.ok) (values_some c.args.enters c.args.keeps c.args.value c.self.inside.values.entries c.self.invariant)

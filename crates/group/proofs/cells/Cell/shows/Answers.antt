use Rattle.std.proofs.Common.{◌∙◌, ap, sym}
use Rattle.group.specs.Cells.{CellState, held}
use Rattle.group.proofs.QuietLemmas.{same_is}
use Rattle.group.proofs.cells.Cell.shows.Goals as goal

pub returns : goal.returns
returns c = λ t. ap (λ (s : CellState). s.shown) (sym c.self.view_is) ∙ same_is _ (held c.args.values.now) (sym c.is_shown.ensures ∙ t)

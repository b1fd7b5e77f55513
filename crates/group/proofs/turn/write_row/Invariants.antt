use Rattle.std.proofs.Common.{◌≡◌, take, map}
use Rattle.group.specs.Cells.{shown_figure}
use Rattle.group.proofs.turn.write_row.Given as goal

abbrev pub invariant-loop-figure : goal.invariant-loop-figure
invariant-loop-figure l = l.row.items ≡ map shown_figure (take l.figure-index l.figures)

use Rattle.std.proofs.Common.{◌∙◌, ◌+◌, ◌^◌, List, ap, sym, subst, length}
use Rattle.std.specs.List.{All}
use Rattle.group.specs.Cells.{CellState, TallyRoom, TallyState}
use Rattle.group.proofs.cells.Cell.take_read.Goals as goal

pub take_tallies-requires-clause-aligned : goal.take_tallies-requires-clause-aligned
take_tallies-requires-clause-aligned c =
    ap (λ (ts : List TallyState). length ts) c.in_ok-add_tallies.ensures.ok ∙ ap (λ (s : CellState). length s.tallies) c.self.view_is ∙ c.requires.room.aligned

pub take_tallies-requires-clause-room : goal.take_tallies-requires-clause-room
take_tallies-requires-clause-room c =
    subst (λ (ts : List TallyState). All (TallyRoom (2 ^ 62 + 1024)) ts) (sym (c.in_ok-add_tallies.ensures.ok ∙ ap (λ (s : CellState). s.tallies) c.self.view_is)) c.requires.room.tallies

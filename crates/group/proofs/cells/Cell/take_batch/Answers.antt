use Rattle.std.proofs.Common.{◌∙◌, ◌^◌, List, ap, subst, length, ◌≡◌, sym, fold, rules, ◌+ℤ◌}
use Rattle.std.specs.List.{All}
use Rattle.group.specs.Cells.{CellState, TallyRoom, TallyState, cell_after, each}
use Rattle.group.specs.Batches.{rows_counted, tally_rows}
use Rattle.group.proofs.BatchLemmas.{cell_of_batch}
use Rattle.group.proofs.cells.Cell.take_batch.Goals as goal

pub take_batches-requires-clause-aligned : goal.take_batches-requires-clause-aligned
take_batches-requires-clause-aligned c =
    ap (λ (ts : List TallyState). length ts) c.in_ok-add_tallies.ensures.ok ∙ ap (λ (s : CellState). length s.tallies) c.self.view_is ∙ c.requires.aligned

pub take_batches-requires-clause-room : goal.take_batches-requires-clause-room
take_batches-requires-clause-room c =
    subst (λ (ts : List TallyState). All (TallyRoom (2 ^ 62)) ts) (sym (c.in_ok-add_tallies.ensures.ok ∙ ap (λ (s : CellState). s.tallies) c.self.view_is)) c.requires.tallies

pub returns-clause-cell : goal.returns-clause-cell
returns-clause-cell c =
    let e : fold (cell_after c.args.items.now) c.args.self.now c.args.batch.now ≡ record { rows = c.args.self.now.rows +ℤ rows_counted c.args.batch.now; tallies = each (tally_rows c.args.batch.now) c.args.items.now c.args.self.now.tallies; shown = c.args.self.now.shown } =
    sym (cell_of_batch c.args.items.now c.args.batch.now c.args.self.now c.requires.aligned) in
    rw e (search rules)

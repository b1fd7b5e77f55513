use Rattle.std.proofs.Common.{◌≡◌, true, rules, sym, ◌∙◌}
use Rattle.group.proofs.cells.Cell.is_quiet.Goals as goal

pub returns : goal.returns
returns c = λ t.
    let shows : c.shows.result ≡ true = search rules in
    let has : c.has_rows.result ≡ true = search rules in
    record {
      shown = c.shows.ensures shows;
      rows = sym c.has_rows.ensures ∙ has;
      tallies = c.has_tallies.ensures t;
    }

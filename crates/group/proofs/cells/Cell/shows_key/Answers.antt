use Rattle.std.proofs.Common.{◌≡◌, true, length, refl, rules}
use Rattle.group.specs.Cells.{Held, held}
use Rattle.group.specs.Quiet.{IsQuietCell}
use Rattle.group.proofs.QuietLemmas.{key_shown}
use Rattle.group.proofs.cells.Cell.shows_key.Goals as goal

pub returns : goal.returns
returns c = λ t.
    let k : Held = held c.args.key.now in
    let quiet : c.is_quiet.result ≡ true = search rules in
    let lists : c.lists_key.result ≡ true = search rules in
    let h : IsQuietCell k c.args.self.now = c.is_quiet.ensures quiet in
    record {
      row = key_shown c.args.group.now k c.args.self.now (length c.args.key.now) (c.lists_key.ensures lists) refl h.rows h.tallies;
      shown = h.shown;
    }

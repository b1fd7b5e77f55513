use Rattle.std.proofs.Common.{◌≡◌, ◌≤◌, ◌+◌, ◌-◌, ◌∙◌, length, ap, arith, rules, sym}
use Rattle.std.proofs.lemmas.Bool.{eqb-true}
use Rattle.group.specs.Cells.{CellState}
use Rattle.group.proofs.TallyLemmas.{length-padded}
use Rattle.group.proofs.cells.Cell.has_tallies.Goals as goal

pub returns : goal.returns
returns c = λ t.
    let more : c.self.inside.more ≡ c.args.count - c.len-given.result = eqb-true c.self.inside.more (c.args.count - c.len-given.result) t in
    let fits : c.len-given.result ≤ c.args.count = search rules in
    let all : length c.self.inside.tallies.items + c.self.inside.more ≡ c.args.count = omega (arith, more, fits, c.len-given.ensures) in
    ap (λ (s : CellState). length s.tallies) (sym c.self.view_is) ∙ length-padded c.self.inside.more c.self.inside.tallies.items ∙ all

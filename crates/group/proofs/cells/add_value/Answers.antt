use Rattle.std.proofs.Common.{◌≡◌, ◌∙◌, ap, rules}
use Rattle.group.specs.Cells.{one_more, one_less}
use Rattle.group.proofs.BackLemmas.{less_more}
use Rattle.group.proofs.cells.add_value.Goals as goal

pub returns-clause-back : goal.returns-clause-back
returns-clause-back c =
    let now : c.insert.new.self.entries ≡ one_more c.args.value c.args.values.now.entries = search rules in
    ap (one_less c.args.value) now ∙ less_more c.args.value c.args.values.now.entries c.insert.ensures.was_ordered c.requires.some

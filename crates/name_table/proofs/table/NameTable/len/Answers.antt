use Rattle.std.proofs.Common.{◌∙◌, sym, ap, length}
use Rattle.name_table.proofs.TableLemmas.{length-names}
use Rattle.name_table.proofs.table.NameTable.len.Goals as goal

pub returns : goal.returns
returns c = sym (length-names c.self.inside.count c.self.inside.numbers.entries) ∙ ap (λ xs. length xs) c.self.view_is

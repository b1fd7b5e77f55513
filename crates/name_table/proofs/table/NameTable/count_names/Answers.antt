use Rattle.std.proofs.Common.{◌∙◌, sym, ap, count_by, is_some}
use Rattle.name_table.proofs.TableLemmas.{count-names}
use Rattle.name_table.proofs.table.NameTable.count_names.Goals as goal

pub returns : goal.returns
returns c =
    c.len.ensures.len ∙ sym (count-names c.self.inside.count c.self.inside.numbers.entries c.self.invariant) ∙ ap (λ xs. count_by is_some xs) c.self.view_is

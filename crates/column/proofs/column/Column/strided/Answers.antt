use Rattle.std.proofs.Common.{◌∙◌, ◌++◌, ap}
use Rattle.column.specs.Columns.{numbers_of}
use Rattle.column.proofs.StrideLemmas.{values_by, word_made}
use Rattle.column.proofs.column.Column.strided.Goals as goal

pub invariant_of-result : goal.invariant_of-result
invariant_of-result c =
    (word_made c.args.values.now c.args.start c.args.stride c.args.count c.push_cells-word.new.numbers.items c.in_ok-valid.valid
    (c.push_cells-word.ensures.numbers ∙ ap (λ l. l ++ numbers_of (values_by c.args.start c.args.stride c.args.count c.args.values.now)) c.in_ok-numbers.ensures.items)
    (c.in_ok-valid.ensures ∙ c.push_cells-word.ensures.valid) c.push_cells-word.ensures.range).column

pub returns : goal.returns
returns c =
    (word_made c.args.values.now c.args.start c.args.stride c.args.count c.push_cells-word.new.numbers.items c.in_ok-valid.valid
    (c.push_cells-word.ensures.numbers ∙ ap (λ l. l ++ numbers_of (values_by c.args.start c.args.stride c.args.count c.args.values.now)) c.in_ok-numbers.ensures.items)
    (c.in_ok-valid.ensures ∙ c.push_cells-word.ensures.valid) c.push_cells-word.ensures.range).seen

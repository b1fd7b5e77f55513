use Rattle.std.proofs.Common.{arith, ◌∙◌}
use Rattle.column.proofs.StrideLemmas.{IsStrided-more, strided_made, within_more}
use Rattle.column.proofs.column.Column.strided_by_words.Goals as goal

pub push_cells-word-requires-clause-within : goal.push_cells-word-requires-clause-within
push_cells-word-requires-clause-within c =
    within_more c.args.start c.args.stride c.args.count c.loop-from.from c.min-more.result _ c.requires.within (omega (arith, c.min-more.ensures))

pub loop-from-preserved : goal.loop-from-preserved
loop-from-preserved c = record {
  len = omega (arith, c.push_cells-word.ensures.len, c.loop-from.invariant.len);
  room = c.push_cells-word.ensures.room ∙ c.loop-from.invariant.room;
  cells =
      IsStrided-more c.args.values.now c.args.start c.args.stride c.args.count c.loop-from.from c.min-more.result c.push_cells-word.result c.loop-from.numbers.items c.push_cells-word.new.numbers.items c.loop-from.valid c.push_word.new.self c.loop-from.invariant.cells
      c.min-more.ensures c.push_cells-word.ensures.numbers c.in_ok-push_word.ensures.ok c.push_cells-word.ensures.valid c.push_cells-word.ensures.range;
}

pub invariant_of-result : goal.invariant_of-result
invariant_of-result c = (strided_made c.args.values.now c.args.start c.args.stride c.args.count c.loop-from.from c.loop-from.numbers.items c.loop-from.valid c.loop-from.invariant.cells (omega arith)).column

pub returns : goal.returns
returns c = (strided_made c.args.values.now c.args.start c.args.stride c.args.count c.loop-from.from c.loop-from.numbers.items c.loop-from.valid c.loop-from.invariant.cells (omega arith)).seen

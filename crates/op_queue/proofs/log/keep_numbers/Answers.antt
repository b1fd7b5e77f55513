use Rattle.std.proofs.Common.{◌≡◌, ◌∙◌, ap, length, rules, take}
use Rattle.std.proofs.lemmas.List.{take_at}
use Rattle.column.specs.Bits.{chosen}
use Rattle.op_queue.proofs.MarkLemmas.{chosen-take}
use Rattle.op_queue.proofs.log.keep_numbers.Goals as goal

pub returns : goal.returns
returns c =
    let first : c.as_mut_slice.result.now ≡ take (length c.args.kept.now) c.args.numbers.now.items = search rules in
    let long : length c.move_kept-count.new.items ≡ c.truncate.new.self.len = c.move_kept-count.ensures.len ∙ c.as_mut_slice.ensures.len in
    c.truncate-2.ensures.items
    ∙ ap (take c.move_kept-count.result) (take_at c.move_kept-count.new.items _ c.truncate.new.self.len long)
    ∙ c.move_kept-count.ensures.kept
    ∙ ap (chosen c.args.kept.now) first
    ∙ chosen-take c.args.kept.now c.args.numbers.now.items

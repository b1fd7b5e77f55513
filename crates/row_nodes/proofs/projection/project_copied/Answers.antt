use Rattle.std.proofs.Common.{◌++◌, ap, map, subst, sym, List}
use Rattle.values.specs.Row.{Row}
use Rattle.op_queue.specs.Entries.{Entry, RowAt}
use Rattle.op_queue.specs.Forward.{IsForward}
use Rattle.op_queue.specs.declared.item.Item.TheVariants.{Rows}
use Rattle.op_queue.proofs.GainLemmas.{gained-item, gained-same}
use Rattle.row_nodes.proofs.FrontLemmas.{batch_left}
use Rattle.row_nodes.proofs.projection.project_copied.Goals as goal

pub project-requires-clause-within : goal.project-requires-clause-within
project-requires-clause-within c = c.requires.within (Rows c.in-Some.at c.in-Some.batch.now) c.in-Some.ensures.part

pub push-requires : goal.push-requires
push-requires c =
    let P : List (Entry Row) → Type 0 = λ es. IsForward (c.args.to.now.entries ++ es) in
    subst P (sym (ap (map (RowAt c.in-Some.at)) c.in_ok-chosen.ensures)) (c.requires.forward (Rows c.in-Some.at c.in-Some.batch.now) c.in-Some.ensures.part)

pub returns-clause-moved : goal.returns-clause-moved
returns-clause-moved c = record {
  item = Rows c.in-Some.at c.in-Some.batch.now;
  left = batch_left c.args.rows c.len-count.result c.args.from.now c.drop_front.new.self c.in-Some.at c.in-Some.batch.now c.in-Some.ensures c.len-count.ensures.value (record {
    entries = c.drop_front.ensures.entries;
    begins = c.drop_front.ensures.begins;
    pieces = c.drop_front.ensures.pieces;
    counted = c.drop_front.ensures.counted;
  });
  gained = gained-same (ap (map (RowAt c.in-Some.at)) c.in_ok-chosen.ensures)
      (gained-item (Rows c.in-Some.at c.in_ok-chosen.chosen) c.args.to.now c.push.new.self c.in_ok-push.ensures.entries c.in_ok-push.ensures.begins);
}

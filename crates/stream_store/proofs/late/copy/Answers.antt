use Rattle.std.proofs.Common.{◌∙◌, ap}
use Rattle.std.specs.BTreeMap.{insert_entry}
use Rattle.std.specs.Ordering.{nat_cmp}
use Rattle.stream_store.specs.LateRows.{RowsAt}
use Rattle.stream_store.proofs.CopyLemmas.{copied_more}
use Rattle.stream_store.proofs.late.copy.Goals as goal

pub loop-instant-preserved-in_ok-insert : goal.loop-instant-preserved-in_ok-insert
loop-instant-preserved-in_ok-insert c =
    let l = c.loop-instant in
    record {
      done = copied_more c.args.late.now.entries l.copy.entries c.insert.new.self.entries c.next.new.self l.instant-iterator c.in-Some.instant.now c.in-Some.open.now l.invariant.sorted c.in-Some.ensures.steps l.invariant.done
          (c.in_ok-insert.ensures.entries ∙ ap (λ (o : RowsAt). insert_entry nat_cmp l.copy.entries c.in-Some.instant.now o) c.in_ok-rows.ensures);
      sorted = l.invariant.sorted;
    }

pub loop-instant-preserved : goal.loop-instant-preserved
loop-instant-preserved c =
    let l = c.loop-instant in
    record {
      done = copied_more c.args.late.now.entries l.copy.entries c.insert.new.self.entries c.next.new.self l.instant-iterator c.in-Some.instant.now c.in-Some.open.now l.invariant.sorted c.in-Some.ensures.steps l.invariant.done
          (c.in_ok-insert.ensures.entries ∙ ap (λ (o : RowsAt). insert_entry nat_cmp l.copy.entries c.in-Some.instant.now o) c.in_ok-rows.ensures);
      sorted = l.invariant.sorted;
    }

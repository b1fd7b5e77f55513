use Rattle.std.proofs.Common.{◌≡◌, ◌<◌, arith, true, false, length, get_or, rules}
use Rattle.column.proofs.KeptLemmas.{IsKept-no, IsKept-swap}
use Rattle.op_queue.proofs.MarkLemmas.{some_item}
use Rattle.op_queue.proofs.log.move_kept.Goals.{then-kept-place, else-kept-place}
use Rattle.op_queue.proofs.log.move_kept.Goals as goal

pub loop-place-preserved : goal.loop-place-preserved
loop-place-preserved g c =
    let l = c.loop-place in
    let h : l.place < length c.args.items.now = omega (arith, c.loop-place-test.true, c.requires) in
    let any = some_item c.args.items.now l.place h in
    elim c.if-kept-place.branch [
      | then-kept-place w ↦
          let used : get_or c.args.kept.now l.place false ≡ true = search rules in
          rw (w.count-is, w.items-is) (IsKept-swap c.args.kept.now c.args.items.now l.count l.place l.items w.swap.new.self any c.requires h used (w.swap.ensures.by_index.3 any) l.invariant)
      | else-kept-place w ↦
          let free : get_or c.args.kept.now l.place false ≡ false = search rules in
          rw (w.count-is, w.items-is) (IsKept-no c.args.kept.now c.args.items.now l.count l.place l.items any c.requires h free l.invariant)
    ]

use Rattle.std.proofs.Common.{◌≡◌, ◌∙◌, false, true, get_or, rules}
use Rattle.stream_store.proofs.CopyLemmas.{chosen_gone, chosen_kept}
use Rattle.stream_store.proofs.closed_rows.marked_rows.Goals.{then-kept-place+in_ok-push_closed, else-kept-place}
use Rattle.stream_store.proofs.closed_rows.marked_rows.Goals as goal

pub loop-place-preserved : goal.loop-place-preserved
loop-place-preserved c =
    let l = c.loop-place in
    let es = c.args.log.now.elements in
    elim c.if-kept-place.branch [
      | then-kept-place+in_ok-push_closed w ↦
          let used : get_or c.args.kept.now l.place false ≡ true = search rules in
          rw (w.rows-is)
          (record {
            width = w.push_closed.ensures.width ∙ l.invariant.width;
            rows = chosen_kept c.args.kept.now es l.place l.rows.elements w.push_closed.new.self.elements c.loop-place-test.true c.requires.marks used w.in_ok-push_closed.ensures.ok l.invariant.rows;
          })
      | else-kept-place w ↦
          let free : get_or c.args.kept.now l.place false ≡ false = search rules in
          rw (w.rows-is)
          (record {
            width = l.invariant.width;
            rows = chosen_gone c.args.kept.now es l.place l.rows.elements c.loop-place-test.true c.requires.marks free l.invariant.rows;
          })
    ]

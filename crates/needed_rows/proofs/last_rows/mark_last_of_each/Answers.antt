use Rattle.std.proofs.Common.{◌≡◌, ◌<◌, ◌≤◌, ◌+◌, ◌-◌, ◌∙◌, length, sym, arith}
use Rattle.needed_rows.specs.Needed.{lists}
use Rattle.needed_rows.proofs.LastLemmas.{each_counted, each_no, each_none, each_none_counted, each_yes}
use Rattle.needed_rows.proofs.last_rows.mark_last_of_each.Goals.{then-place-rows+in_ok-count_key+then-branch, then-place-rows+in_ok-count_key+else-branch, else-place-rows}
use Rattle.needed_rows.proofs.last_rows.mark_last_of_each.Goals as goal

pub loop-passed-preserved : goal.loop-passed-preserved
loop-passed-preserved g c =
    let numbers = c.args.rows.now.numbers.now in
    let columns = lists c.args.rows.now.columns.now in
    let old = c.args.kept.now in
    let now = c.loop-passed.kept in
    let es = c.loop-passed.counts.entries in
    let passed = c.loop-passed.passed in
    let row = c.args.end - passed - 1 in
    let e : c.args.end - passed - 1 + 1 ≡ c.args.end - passed = omega (arith, c.saturating_sub-passed-end.ensures) in
    let inside : c.args.start ≤ c.args.end - passed - 1 = omega (arith, c.saturating_sub-passed-end.ensures) in
    let within : c.args.end - passed - 1 < length c.args.kept.now = omega (arith, c.saturating_sub-passed-end.ensures) in
    let set = c.loop-passed.invariant.set in
    let counted = c.loop-passed.invariant.counted in
    elim c.if-place-rows.branch [
      | then-place-rows+in_ok-count_key+then-branch w ↦
          let key = w.key_at-key.result in
          record {
            set = rw w.kept-is (each_yes numbers c.args.place c.args.columns.now columns c.args.count c.args.start c.args.end old now es passed row e inside within set counted w.if-place-rows.true key w.key_at-key.ensures (sym w.in_ok-count_key.ensures.few ∙ w.if-branch.true));
            counted = rw w.counts-is (each_counted numbers c.args.place c.args.columns.now columns c.args.count c.args.start c.args.end old now es passed row e inside within set counted w.if-place-rows.true key w.key_at-key.ensures w.count_key.new.counts.entries w.in_ok-count_key.ensures.counted);
          }
      | then-place-rows+in_ok-count_key+else-branch w ↦
          let key = w.key_at-key.result in
          record {
            set = rw w.kept-is (each_no numbers c.args.place c.args.columns.now columns c.args.count c.args.start c.args.end old now es passed row e inside within set counted w.if-place-rows.true key w.key_at-key.ensures (sym w.in_ok-count_key.ensures.few ∙ w.if-branch.false));
            counted = rw w.counts-is (each_counted numbers c.args.place c.args.columns.now columns c.args.count c.args.start c.args.end old now es passed row e inside within set counted w.if-place-rows.true key w.key_at-key.ensures w.count_key.new.counts.entries w.in_ok-count_key.ensures.counted);
          }
      | else-place-rows w ↦
          record {
            set = rw w.kept-is (each_none numbers c.args.place c.args.columns.now columns c.args.count c.args.start c.args.end old now es passed row e inside within set counted w.if-place-rows.false);
            counted = rw w.counts-is (each_none_counted numbers c.args.place c.args.columns.now columns c.args.count c.args.start c.args.end old now es passed row e inside within set counted w.if-place-rows.false);
          }
    ]

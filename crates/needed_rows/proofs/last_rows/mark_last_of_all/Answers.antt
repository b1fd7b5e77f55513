use Rattle.std.proofs.Common.{◌≡◌, ◌+◌, ◌-◌, ◌≢◌, arith}
use Rattle.needed_rows.proofs.LastLemmas.{all_found, all_no, all_no_left, all_yes, all_yes_left}
use Rattle.needed_rows.proofs.last_rows.mark_last_of_all.Goals.{then-place-numbers, else-place-numbers}
use Rattle.needed_rows.proofs.last_rows.mark_last_of_all.Goals as goal

pub returns-then-left-eq0 : goal.returns-then-left-eq0
returns-then-left-eq0 c =
    all_found c.args.numbers.now c.args.place c.args.count c.args.start c.args.end c.args.kept.now c.loop-passed.kept c.loop-passed.passed c.loop-passed.left (omega (arith, c.saturating_sub-passed-end.ensures)) c.loop-passed.invariant.counted (omega arith) c.loop-passed.invariant.set

pub loop-passed-preserved : goal.loop-passed-preserved
loop-passed-preserved c =
    let numbers = c.args.numbers.now in
    let passed = c.loop-passed.passed in
    let row = c.args.end - passed - 1 in
    let e : c.args.end - passed - 1 + 1 ≡ c.args.end - passed = omega (arith, c.saturating_sub-passed-end.ensures) in
    let some : c.loop-passed.left ≢ 0 = λ z. omega arith in
    elim c.if-place-numbers.branch [
      | then-place-numbers w ↦
          record {
            set = rw w.kept-is (all_yes numbers c.args.place c.args.count c.args.start c.args.end c.args.kept.now c.loop-passed.kept passed c.loop-passed.left row e (omega (arith, c.saturating_sub-passed-end.ensures)) (omega (arith, c.saturating_sub-passed-end.ensures)) c.loop-passed.invariant.set c.loop-passed.invariant.counted some w.if-place-numbers.true);
            counted = rw w.left-is (all_yes_left numbers c.args.place c.args.count c.args.start c.args.end c.args.kept.now c.loop-passed.kept passed c.loop-passed.left row e (omega (arith, c.saturating_sub-passed-end.ensures)) (omega (arith, c.saturating_sub-passed-end.ensures)) c.loop-passed.invariant.set c.loop-passed.invariant.counted some w.if-place-numbers.true);
          }
      | else-place-numbers w ↦
          record {
            set = rw w.kept-is (all_no numbers c.args.place c.args.count c.args.start c.args.end c.args.kept.now c.loop-passed.kept passed c.loop-passed.left row e (omega (arith, c.saturating_sub-passed-end.ensures)) (omega (arith, c.saturating_sub-passed-end.ensures)) c.loop-passed.invariant.set c.loop-passed.invariant.counted w.if-place-numbers.false);
            counted = rw w.left-is (all_no_left numbers c.args.place c.args.count c.args.start c.args.end c.args.kept.now c.loop-passed.kept passed c.loop-passed.left row e (omega (arith, c.saturating_sub-passed-end.ensures)) (omega (arith, c.saturating_sub-passed-end.ensures)) c.loop-passed.invariant.set c.loop-passed.invariant.counted w.if-place-numbers.false);
          }
    ]

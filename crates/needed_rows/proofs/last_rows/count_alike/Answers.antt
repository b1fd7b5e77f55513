use Rattle.std.proofs.Common.{ℕ, ◌+◌, ◌&&◌, ◌∙◌, get_or, ap, sym, arith, le-leb}
use Rattle.std.proofs.lemmas.Bool.{and_from, lt-leb}
use Rattle.needed_rows.specs.Keys.{are_alike}
use Rattle.needed_rows.specs.Marks.{has_arrived}
use Rattle.needed_rows.specs.Needed.{lists}
use Rattle.needed_rows.proofs.CountLemmas.{and_false, count_no, count_yes}
use Rattle.needed_rows.proofs.last_rows.count_alike.Goals.{then-place-rows+then-are_alike, then-place-rows+else-are_alike, else-place-rows}
use Rattle.needed_rows.proofs.last_rows.count_alike.Goals as goal

pub loop-other-preserved : goal.loop-other-preserved
loop-other-preserved c =
    let numbers = c.args.rows.now.numbers.now in
    let columns = lists c.args.rows.now.columns.now in
    let q = λ (j : ℕ). has_arrived numbers c.args.place j && are_alike c.args.columns.now columns c.args.row j in
    let s = c.args.row + 1 in
    let other = c.loop-other.other in
    elim c.if-place-rows.branch [
      | then-place-rows+then-are_alike w ↦
          record {
            counted = rw w.count-is (count_yes q s other c.loop-other.count (omega arith) c.loop-other.invariant.counted
                (and_from (has_arrived numbers c.args.place other) (are_alike c.args.columns.now columns c.args.row other) (le-leb _ _ w.if-place-rows.true) (sym w.are_alike.ensures ∙ w.if-are_alike.true)));
            few = omega arith;
          }
      | then-place-rows+else-are_alike w ↦
          record {
            counted = rw w.count-is (count_no q s other c.loop-other.count (omega arith) c.loop-other.invariant.counted
                (and_false (has_arrived numbers c.args.place other) (are_alike c.args.columns.now columns c.args.row other) (sym w.are_alike.ensures ∙ w.if-are_alike.false)));
            few = omega arith;
          }
      | else-place-rows w ↦
          record {
            counted = rw w.count-is (count_no q s other c.loop-other.count (omega arith) c.loop-other.invariant.counted
                (ap (λ b. b && are_alike c.args.columns.now columns c.args.row other) (lt-leb c.args.place (get_or numbers other 0) w.if-place-rows.false)));
            few = omega arith;
          }
    ]

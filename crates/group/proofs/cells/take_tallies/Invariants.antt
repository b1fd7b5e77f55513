use Rattle.std.proofs.Common.{◌≡◌, ◌<◌, ℕ, true, false, get_or}
use Rattle.values.specs.Ranges.{IsAnswerValue}
use Rattle.values.specs.declared.resolved.ListItem.TheVariants.{Key}
use Rattle.group.specs.Batches.{row_in}
use Rattle.group.specs.Cells.{tally_after, tally_zero, partly, number_of}
use Rattle.group.proofs.cells.take_tallies.Given as goal

abbrev pub invariant-loop-i : goal.invariant-loop-i
invariant-loop-i l = record {
  done : l.tallies.items ≡ partly (tally_after (row_in l.batch l.place)) l.i l.items l.initial.tallies.items;
  range : (k : ℕ) → k < l.i → IsAnswerValue (number_of (get_or l.items k (Key 0)) (row_in l.batch l.place).1);
  back : (row_in l.batch l.place).0 ≡ true → (k : ℕ) → k < l.i
      → tally_after (false, (row_in l.batch l.place).1) (get_or l.items k (Key 0)) (tally_after (true, (row_in l.batch l.place).1) (get_or l.items k (Key 0)) (get_or l.initial.tallies.items k tally_zero)) ≡ get_or l.initial.tallies.items k tally_zero;
}

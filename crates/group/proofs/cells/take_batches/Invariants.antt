use Rattle.std.proofs.Common.{◌≡◌, ◌<◌, ℕ, get_or}
use Rattle.std.specs.List.{All}
use Rattle.values.specs.Ranges.{IsAnswerValue}
use Rattle.values.specs.declared.resolved.ListItem.TheVariants.{Key}
use Rattle.group.specs.Cells.{partly}
use Rattle.group.specs.Batches.{numbers_read, tally_rows}
use Rattle.group.proofs.cells.take_batches.Given as goal

abbrev pub invariant-loop-place : goal.invariant-loop-place
invariant-loop-place l = record {
  done : l.tallies.items ≡ partly (tally_rows l.batch) l.place l.items l.initial.tallies.items;
  range : (k : ℕ) → k < l.place → All IsAnswerValue (numbers_read (get_or l.items k (Key 0)) l.batch);
}

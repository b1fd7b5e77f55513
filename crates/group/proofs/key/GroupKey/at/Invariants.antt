use Rattle.std.proofs.Common.{◌≡◌, ◌≤◌, take, length}
use Rattle.group.specs.Batches.{row_in}
use Rattle.group.specs.Groups.{key_in}
use Rattle.group.proofs.key.GroupKey.at.Given as goal

abbrev pub invariant-loop-column : goal.invariant-loop-column
invariant-loop-column g l = record {
  listed : l.values.items ≡ key_in (take l.column-index l.by) (row_in l.batch l.place).1;
  few : length l.values.items ≤ l.column-index;
}

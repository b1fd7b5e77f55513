use Rattle.std.proofs.Common.{◌≡◌, ◌≤◌, ◌-◌, map, take}
use Rattle.std.specs.List.{flat_map}
use Rattle.op_queue.specs.Entries.{RowAt}
use Rattle.op_queue.specs.Items.{entries_of}
use Rattle.windows.specs.Fallen.{fallen_before}
use Rattle.windows.specs.Latest.{interleaved}
use Rattle.windows.proofs.latest.with_fallen.Given as goal

abbrev pub invariant-loop-from : goal.invariant-loop-from
invariant-loop-from l = record {
  within : l.from ≤ l.count;
  fell : l.fell ≡ fallen_before l.near l.from;
  so_far : flat_map entries_of l.outputs.items ≡ map (RowAt l.at) (interleaved (take l.from l.batch) (take l.from l.near));
}

abbrev pub decreases-loop-from : goal.decreases-loop-from
decreases-loop-from l = l.count - l.from

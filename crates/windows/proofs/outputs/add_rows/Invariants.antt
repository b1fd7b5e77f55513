use Rattle.std.proofs.Common.{◌≡◌, ◌≤◌, ◌-◌, ◌++◌, take}
use Rattle.std.specs.List.{flat_map}
use Rattle.op_queue.specs.Items.{entries_of}
use Rattle.windows.proofs.LeavingLemmas.{rows_at}
use Rattle.windows.proofs.outputs.add_rows.Given as goal

abbrev pub invariant-loop-done : goal.invariant-loop-done
invariant-loop-done l = record {
  le : l.done ≤ l.count;
  so_far : flat_map entries_of l.items.items ≡ flat_map entries_of l.initial.items.items ++ rows_at l.at l.enters (take l.done l.rows);
}

abbrev pub decreases-loop-done : goal.decreases-loop-done
decreases-loop-done l = l.count - l.done

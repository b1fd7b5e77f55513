use Rattle.std.proofs.Common.{◌≤◌, ◌-◌, map, take, drop}
use Rattle.op_queue.specs.Queues.{HasGained}
use Rattle.windows.proofs.LeavingLemmas.{rows_at}
use Rattle.windows.proofs.outputs.put_held.Given as goal

abbrev pub invariant-loop-done : goal.invariant-loop-done
invariant-loop-done l = record {
  le : l.done ≤ l.count;
  gained : HasGained (rows_at l.at l.enters (take l.done (drop l.«from» (map (λ h. h.1) l.held.held)))) l.initial.queue l.queue;
}

abbrev pub decreases-loop-done : goal.decreases-loop-done
decreases-loop-done l = l.count - l.done

use Rattle.std.proofs.Common.{◌≡◌, ◌++◌, drop, length}
use Rattle.group.specs.Plans.{plans_at}
use Rattle.group.specs.Turns.{near_at, outputs}
use Rattle.op_queue.specs.Flat.{with_signed}
use Rattle.group.proofs.keyed.plan_all.Given as goal

abbrev pub invariant-loop-touch : goal.invariant-loop-touch
invariant-loop-touch g l = record {
  plans : l.plans.items ++ plans_at l.group l.cells.entries (drop l.touch-index l.touched) ≡ plans_at l.group l.cells.entries l.touched;
  rows : with_signed l.rows (outputs l.group (near_at l.group.items l.cells.entries (drop l.touch-index l.touched))) ≡ with_signed l.initial.rows (outputs l.group (near_at l.group.items l.cells.entries l.touched));
  width : l.rows.width ≡ length l.group.items;
}

use Rattle.std.proofs.Common.{◌≡◌, drop, length}
use Rattle.group.specs.Plans.{put_all}
use Rattle.group.proofs.keyed.show_all.Given as goal

abbrev pub invariant-loop-place : goal.invariant-loop-place
invariant-loop-place g l = record {
  done : put_all (drop l.place l.touched) (drop l.place l.plans.items) l.cells.entries ≡ put_all l.touched l.initial.plans.items l.initial.cells.entries;
  len : length l.plans.items ≡ length l.touched;
}

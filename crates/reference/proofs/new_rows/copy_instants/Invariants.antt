use Rattle.std.proofs.Common.{◌≡◌, ◌+◌, ◌-◌, ◌≤◌, ◌++◌, length, take, map, nat_abs, vec_len, vec_capacity}
use Rattle.reference.proofs.new_rows.copy_instants.Given as goal

abbrev pub invariant-loop-instant : goal.invariant-loop-instant
invariant-loop-instant l = record {
  done : l.kept.items ≡ l.initial.kept.items ++ map nat_abs (take l.instant-index l.instants);
  room : vec_len l.kept + (length l.instants - l.instant-index) ≤ vec_capacity l.kept;
}

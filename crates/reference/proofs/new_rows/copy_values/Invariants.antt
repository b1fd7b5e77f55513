use Rattle.std.proofs.Common.{◌≡◌, ◌+◌, ◌-◌, ◌≤◌, ◌++◌, length, take, vec_len, vec_capacity}
use Rattle.reference.proofs.new_rows.copy_values.Given as goal

abbrev pub invariant-loop-value : goal.invariant-loop-value
invariant-loop-value l = record {
  done : l.kept.items ≡ l.initial.kept.items ++ take l.value-index l.values;
  room : vec_len l.kept + (length l.values - l.value-index) ≤ vec_capacity l.kept;
}

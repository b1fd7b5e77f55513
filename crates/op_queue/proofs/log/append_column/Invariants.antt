use Rattle.std.proofs.Common.{◌≡◌, ◌≤◌, ◌+◌, ◌-◌, ◌++◌, take, vec_len, vec_capacity}
use Rattle.op_queue.specs.Tables.{column_of}
use Rattle.op_queue.proofs.log.append_column.Given as goal

abbrev pub invariant-loop-row : goal.invariant-loop-row
invariant-loop-row l = record {
  done : l.column.items ≡ take l.len l.fn.column.items ++ column_of l.width l.k l.row l.values;
  room : vec_len l.column + (l.count - l.row) ≤ vec_capacity l.column;
}

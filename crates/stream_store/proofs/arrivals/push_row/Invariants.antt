use Rattle.std.proofs.Common.{◌≡◌, ◌≤◌, ◌+◌, ◌-◌, ◌++◌, get_or, take, vec_len, vec_capacity}
use Rattle.values.specs.Window.{Element}
use Rattle.stream_store.proofs.arrivals.push_row.Given as goal

abbrev pub invariant-loop-index : goal.invariant-loop-index
invariant-loop-index l = record {
  done : (e : Element) → l.values.items ≡ l.initial.values.items ++ take l.index (get_or l.log.elements l.place e).row;
  room : vec_len l.values + (l.width - l.index) ≤ vec_capacity l.values;
}

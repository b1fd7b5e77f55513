use Rattle.std.proofs.Common.{◌≡◌, ◌+◌, drop}
use Rattle.std.specs.VecDeque.{deque_len}
use Rattle.reference.proofs.standing.calls.drop_front.Given as goal

abbrev pub invariant-loop : goal.invariant-loop
invariant-loop l = record {
  items : l.waiting.items ≡ drop l.counter l.initial.waiting.items;
  len : deque_len l.waiting + l.counter ≡ deque_len l.initial.waiting;
}

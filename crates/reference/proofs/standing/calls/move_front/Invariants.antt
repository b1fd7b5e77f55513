use Rattle.std.proofs.Common.{◌≡◌, ◌≤◌, ◌+◌, ◌-◌, ◌++◌, drop, take, vec_len, vec_capacity, true}
use Rattle.std.specs.VecDeque.{deque_len}
use Rattle.reference.specs.CallViews.{handed_of}
use Rattle.reference.specs.World.{handed}
use Rattle.reference.specs.Inputs.{are_signed}
use Rattle.reference.specs.Views.{pairs_of}
use Rattle.reference.proofs.standing.calls.move_front.Given as goal

-- if what follows is right for the rest, the whole is right
abbrev pub invariant-loop : goal.invariant-loop
invariant-loop l = record {
  rows : handed_of l.rows.items ++ handed (take (l.count - l.counter) (pairs_of l.waiting.items))
      ≡ handed_of l.initial.rows.items ++ handed (take l.count (pairs_of l.initial.waiting.items));
  waiting : pairs_of l.waiting.items ≡ drop l.counter (pairs_of l.initial.waiting.items);
  len : deque_len l.waiting + l.counter ≡ deque_len l.initial.waiting;
  room : vec_len l.rows + (l.count - l.counter) ≤ vec_capacity l.rows;
  instants : are_signed (pairs_of l.waiting.items) ≡ true;
}

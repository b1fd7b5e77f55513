use Rattle.std.proofs.Common.{◌≡◌, ◌≤◌, ◌+◌, ◌-◌, ◌++◌, drop, take, vec_len, vec_capacity, true}
use Rattle.reference.specs.CallViews.{handed_of}
use Rattle.reference.specs.Inputs.{are_signed}
use Rattle.reference.specs.World.{handed}
use Rattle.query_runtime.proofs.waiting.move_front.Given as goal

-- if what follows is right for the rest, the whole is right
abbrev pub invariant-loop : goal.invariant-loop
invariant-loop l = record {
  rows : handed_of l.rows.items ++ handed (take (l.count - l.counter) l.answers) ≡ handed_of l.initial.rows.items ++ handed (take l.count l.initial.answers);
  rest : l.answers ≡ drop l.counter l.initial.answers;
  room : vec_len l.rows + (l.count - l.counter) ≤ vec_capacity l.rows;
  instants : are_signed l.answers ≡ true;
}

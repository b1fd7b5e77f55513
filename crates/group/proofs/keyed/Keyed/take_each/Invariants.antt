use Rattle.std.proofs.Common.{◌≡◌, ◌+◌, ℕ, take}
use Rattle.group.specs.Runs.{state_with}
use Rattle.group.specs.Turns.{rows_after, CountsUpTo}
use Rattle.group.proofs.keyed.Keyed.take_each.Given as goal

abbrev pub invariant-loop-place : goal.invariant-loop-place
invariant-loop-place g l = record {
  done : state_with l.group l.self ≡ rows_after (state_with l.group l.initial.self) (take l.place l.batch);
  room : (n : ℕ) → CountsUpTo n (state_with l.group l.initial.self) → CountsUpTo (n + l.place) (state_with l.group l.self);
}

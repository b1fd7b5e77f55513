use Rattle.std.proofs.Common.{◌≡◌, ◌++◌, length, true}
use Rattle.reference.specs.Inputs.{are_signed}
use Rattle.reference.specs.World.{handed}
use Rattle.query_runtime.proofs.waiting.push_all.Given as goal

-- with what is left it is the whole
abbrev pub invariant-loop-at : goal.invariant-loop-at
invariant-loop-at l = record {
  rows : l.rows ++ handed l.answers ≡ l.initial.rows ++ handed l.initial.answers;
  instants : are_signed l.answers ≡ true;
}

abbrev pub decreases-loop-at : goal.decreases-loop-at
decreases-loop-at l = length l.answers

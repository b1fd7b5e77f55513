-- The jobs before this place have their queries, and the others are new.
use Rattle.std.proofs.Common.{◌≡◌, length}
use Rattle.leases.proofs.LendAllLemmas.{ArePartlyLent}
use Rattle.leases.proofs.state.EngineState.lend.Given as goal

abbrev pub invariant-loop-place : goal.invariant-loop-place
invariant-loop-place l = record {
  partly : ArePartlyLent l.fn.self l.jobs l.place l.self;
  many : length l.jobs ≡ length l.fn.jobs;
}

-- The queries that came home went on, by turns that might go out; those of the jobs that are left are out.
use Rattle.std.proofs.Common.{ℕ, length}
use Rattle.laws_engine.specs.Engines.{PlainEngine}
use Rattle.leases.specs.ByQuery.{HaveComeHome}
use Rattle.leases.specs.Jobs.{AreOut}
use Rattle.leases.proofs.LendAllLemmas.{TookFew}
use Rattle.leases.proofs.state.EngineState.bring_home.Given as goal

abbrev pub invariant-jobs : goal.invariant-jobs
invariant-jobs l = record {
  some : (e : PlainEngine) × ((rows : ℕ) × AreOut e rows l.jobs.items l.self);
  few : TookFew l.fn.jobs.items l.fn.self l.jobs.items l.self;
  all : (e : PlainEngine) (rows : ℕ) → AreOut e rows l.fn.jobs.items l.fn.self → (e2 : PlainEngine) × (AreOut e2 rows l.jobs.items l.self × HaveComeHome rows l.all_run e e2);
}

abbrev pub decreases-jobs : goal.decreases-jobs
decreases-jobs l = length l.jobs.items

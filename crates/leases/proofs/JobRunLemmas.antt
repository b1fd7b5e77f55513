-- A job that has run: its query took steps of its own.
use Rattle.std.proofs.Common.{◌≡◌, ◌≤◌, List, refl, arith}
use Rattle.reference.specs.Machine.{Stream}
use Rattle.laws_queries.specs.Plain.{PlainQuery}
use Rattle.laws_engine.specs.Engines.{Running}
use Rattle.leases.specs.Alone.{HasRunAlone}
use Rattle.leases.specs.Jobs.{HasRunJob, IsQuota}
use Rattle.leases.specs.Views.{remains_of}
use Rattle.leases.specs.declared.remains.Remains.{Remains}
use Rattle.leases.specs.declared.state.jobs.Job.{Job}
use Rattle.leases.specs.declared.state.jobs.Quota.{Quota}
use Rattle.leases.specs.declared.state.jobs.Ran.{Ran}

pub job_ran : (streams : List Stream) (quota : Quota) (j : Job) (ran : Ran) (mid : Remains) → IsQuota quota
    → ((p : PlainQuery) → remains_of j.remains ≡ Running p → (p2 : PlainQuery) × ((remains_of mid ≡ Running p2) × HasRunAlone streams quota p ran p2))
    → (p : PlainQuery) → remains_of j.remains ≡ Running p → HasRunJob streams quota j (record j { remains = mid; turns = ran.turns; stopped = ran.stopped })
job_ran streams quota j ran mid fits h p0 runs = record {
  query = refl;
  slots = refl;
  most = (h p0 runs).1.1.few;
  done = λ p running.
      let r = h p running in
      let few : ran.turns ≤ quota.turns = r.1.1.few in
      record {
        steps = r.1.1.steps;
        after = r.0;
        run = r.1.1.run;
        few = omega (arith, few, fits.few);
        running = r.1.0;
        counts = r.1.1.counts;
        stopped = r.1.1.stopped;
      };
}

use Rattle.std.proofs.Common.{rules}
use Rattle.workers.proofs.worker.work.Goals as goal
use Rattle.workers.proofs.worker.work.Goals.{in-None, in-Some+in-Ok-Ended}

pub returns : goal.returns
returns g c = elim c.match-next.branch [
  | in-None w ↦ search rules
  | in-Some+in-Ok-Ended w ↦ search rules
]

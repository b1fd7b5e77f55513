use Rattle.std.proofs.Common.{rules}
use Rattle.workers.proofs.FullLemmas.{withheld_lacks}
use Rattle.workers.proofs.worker.run_to_rest.Goals as goal
use Rattle.workers.proofs.worker.run_to_rest.Goals.{in-None, in-Some+in-Ok-Rest}

pub returns-clause-ok : goal.returns-clause-ok
returns-clause-ok g c = elim c.match-next.branch [
  | in-None w ↦ search rules
  | in-Some+in-Ok-Rest w ↦ search rules
]

pub invariant_of-result : goal.invariant_of-result
invariant_of-result g c = withheld_lacks c.in-Err.ensures.err.0 c.in-Err.ensures.err.1 c.args.rows c.in-Err.fault c.requires.0 c.requires.1 c.in-Err.ensures.err.2

pub returns-in-Err-clause-err : goal.returns-in-Err-clause-err
returns-in-Err-clause-err g c = withheld_lacks c.in-Err.ensures.err.0 c.in-Err.ensures.err.1 c.args.rows c.in-Err.fault c.requires.0 c.requires.1 c.in-Err.ensures.err.2

use Rattle.std.proofs.Common.{rules}
use Rattle.workers.proofs.helper.help.Goals as goal
use Rattle.workers.proofs.helper.help.Goals.{in-None, in-Some+in_default}

pub returns : goal.returns
returns g c = elim c.match-next.branch [
  | in-None w ↦ search rules
  | in-Some+in_default w ↦ search rules
]

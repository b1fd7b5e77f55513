use Rattle.reference.proofs.AlikeLemmas.{world_itself}
use Rattle.reference.proofs.plain.answering.PlainAnswering.tidy.Goals as goal

pub returns-clause-alike : goal.returns-clause-alike
returns-clause-alike c whole = world_itself _

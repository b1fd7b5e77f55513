use Rattle.values.proofs.Worlds.{answers-more}
use Rattle.reference.proofs.laws.answers_only_grow.Goals as goal

pub returns : goal.returns
returns c = λ q start until later inputs h k. (_, answers-more q start inputs inputs until later h k)

use Rattle.reference.proofs.AlikeLemmas.{world_itself}
use Rattle.laws_forgetting.proofs.EquivalenceLemmas.{worlds_joined, worlds_turned}
use Rattle.laws_forgetting.proofs.laws.alike_is_an_equivalence.Goals as goal

pub returns-clause-reflexive : goal.returns-clause-reflexive
returns-clause-reflexive c = world_itself

pub returns-clause-symmetric : goal.returns-clause-symmetric
returns-clause-symmetric c = worlds_turned

pub returns-clause-transitive : goal.returns-clause-transitive
returns-clause-transitive c = worlds_joined

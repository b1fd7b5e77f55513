use Rattle.names.specs.Matches.{tables}
use Rattle.laws_engine.proofs.ConditionLemmas.{read_few, resolved_few}
use Rattle.laws_engine.proofs.laws.conditions_of_texts_fit.Goals as goal

pub returns : goal.returns
returns c text q catalog condition read is =
    resolved_few (tables catalog q.sources) q.condition (read_few text q read) condition is

use Rattle.laws_queries.proofs.StillLemmas.{query_runs_on}
use Rattle.laws_queries.proofs.laws.passing_keeps_queries.Goals as goal

pub returns : goal.returns
returns c = λ vs ws m q os os2 given b bounded r h. query_runs_on vs ws m q bounded os os2 given b r h

use Rattle.cql_reader.proofs.WellFormed.{well_formed}
use Rattle.cql_reader.proofs.laws.every_query_is_well_formed.Goals as goal

pub returns : goal.returns
returns c = λ text query e. well_formed text query e

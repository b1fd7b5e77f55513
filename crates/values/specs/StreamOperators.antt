-- TO BELIEVE: the theorem rests on these definitions, and no proof can check them.
-- The operators from a relation to a stream, as the code has them.
use Rattle.values.specs.Answers as cql
use Rattle.values.specs.declared.resolved.StreamOperator.{StreamOperator}
use Rattle.values.specs.declared.resolved.StreamOperator.TheVariants.{Istream, Dstream, Rstream}

abbrev pub operator_of : StreamOperator → cql.StreamOperator
operator_of Istream = cql.Istream
operator_of Dstream = cql.Dstream
operator_of Rstream = cql.Rstream

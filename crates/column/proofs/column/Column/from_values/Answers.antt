use Rattle.std.proofs.Common.{arith, ◌∙◌, mul-one}
use Rattle.column.proofs.StrideLemmas.{values_by-all}
use Rattle.column.proofs.column.Column.from_values.Goals as goal

pub strided-requires-clause-within : goal.strided-requires-clause-within
strided-requires-clause-within c = λ i h. omega (arith, mul-one i)

pub returns : goal.returns
returns c = c.in_ok-column.ensures ∙ values_by-all c.args.values.now

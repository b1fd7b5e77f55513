use Rattle.envelope.proofs.LowestTerms.{MadeLowest, made_lowest}
use Rattle.envelope.proofs.slope.Slope.new.Goals as goal

made : (c : goal.After-greatest_common_divisor-divisor) → MadeLowest c.args.numerator c.args.denominator c.greatest_common_divisor-divisor.result
made c = made_lowest _ _ _ c.requires c.greatest_common_divisor-divisor.ensures

pub nonzero_div-result : goal.nonzero_div-result
nonzero_div-result c = (made c).divisor

pub nonzero_div-result-2 : goal.nonzero_div-result-2
nonzero_div-result-2 c = (made c).divisor

pub invariant_of-result : goal.invariant_of-result
invariant_of-result c = ((made c).positive, (made c).common)

pub returns : goal.returns
returns c = (made c).value

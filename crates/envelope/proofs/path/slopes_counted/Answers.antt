use Rattle.std.proofs.Common.{List, Result, Ok, Err, IfOk, ◌≡◌, ◌∙◌, sym, subst, Vec, Global}
use Rattle.envelope.specs.declared.chart.Point.{Point}
use Rattle.envelope.specs.Fraction.{Fraction}
use Rattle.envelope.specs.Chart.{IsChart}
use Rattle.envelope.specs.LowerEnvelope.{slopes_along, IsLowerEnvelope, AreSlopes}
use Rattle.envelope.specs.Formula.{slopes_of}
use Rattle.envelope.proofs.Supports.{all_alike}
use Rattle.envelope.proofs.Formula.{formula_alike}
use Rattle.envelope.proofs.path.slopes_counted.Goals as goal

module _ {E : Type 0} (chart es : List Point) (ch : IsChart chart) (env : IsLowerEnvelope chart es) where
  are_slopes : (r : Result (Vec Fraction Global) E) → IfOk r (λ v. v.items ≡ slopes_along es chart) → IfOk r (λ v. AreSlopes chart v.items)
  are_slopes (Ok v) h = record { some = (es, env); every = λ fs q. h ∙ all_alike chart es fs ch env q }
  are_slopes (Err e) h = tt

  by_formula : (r : Result (Vec Fraction Global) E) → IfOk r (λ v. v.items ≡ slopes_along es chart) → IfOk r (λ v. v.items ≡ slopes_of chart)
  by_formula (Ok v) h = h ∙ sym (formula_alike chart es ch env)
  by_formula (Err e) h = tt

pub returns-clause-slopes : goal.returns-clause-slopes
returns-clause-slopes g c =
    are_slopes c.args.points.now c.as_slice.result.now c.requires (subst (λ l. IsLowerEnvelope c.args.points.now l) (sym c.as_slice.ensures.value) c.in_ok-envelope.ensures.envelope) c.read_off.result c.read_off.ensures

pub returns-clause-formula : goal.returns-clause-formula
returns-clause-formula g c =
    by_formula c.args.points.now c.as_slice.result.now c.requires (subst (λ l. IsLowerEnvelope c.args.points.now l) (sym c.as_slice.ensures.value) c.in_ok-envelope.ensures.envelope) c.read_off.result c.read_off.ensures

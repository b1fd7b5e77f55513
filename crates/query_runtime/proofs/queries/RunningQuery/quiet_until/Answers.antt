use Rattle.std.proofs.Common.{◌≡◌, ◌<◌, ◌≤◌, ℕ, ap, arith, length, subst, ⊎_elim}
use Rattle.std.proofs.lemmas.Bool.{cases_lt}
use Rattle.operators.specs.Passing.{MayPass}
use Rattle.laws_queries.specs.Plain.{PlainQuery, operator_at}
use Rattle.query_runtime.specs.Turns.{log_of}
use Rattle.query_runtime.proofs.queries.RunningQuery.quiet_until.Goals as goal

pub loop-operator-preserved : goal.loop-operator-preserved
loop-operator-preserved c = λ k lt b above le. ⊎_elim
    (λ (less : k < c.loop-operator.operator). c.loop-operator.invariant k less b above (omega (arith, le, c.min-until.ensures)))
    (λ (reached : c.loop-operator.operator ≤ k).
    let same : c.loop-operator.operator ≡ k = omega (arith, lt, reached) in
    subst (λ i. MayPass c.args.start b (log_of c.args.streams.now c.args.self.now i) (operator_at c.args.self.now.operators i)) same
    (c.quiet_at.ensures b above (omega (arith, le, c.min-until.ensures))))
    (cases_lt k c.loop-operator.operator)

pub returns : goal.returns
returns c = λ b above le least. record {
  each = λ k lt.
      let many : length c.self.inside.operators.items ≡ length c.args.self.now.operators = ap (λ (p : PlainQuery). length p.operators) c.self.view_is in
      c.loop-operator.invariant k (omega (arith, lt, many, c.loop-operator-test.false, c.len-operator-end.ensures)) b above le;
}

use Rattle.std.proofs.Common.{◌≡◌, ◌<◌, ◌≤◌, ◌∙◌, ℕ, arith, subst, sym, ⊎_elim}
use Rattle.std.proofs.lemmas.Bool.{cases_lt}
use Rattle.operators.specs.Ready.{PlainOperator}
use Rattle.operators.specs.Passing.{IsPassed, IsQuiet}
use Rattle.laws_queries.specs.Plain.{operator_at}
use Rattle.query_runtime.proofs.moves.pass_all.Goals as goal

pub pass_at-requires-clause-quiet : goal.pass_at-requires-clause-quiet
pass_at-requires-clause-quiet c =
    let quiet = c.requires c.loop-number.number (omega (arith, c.loop-number-test.true, c.len-number-end.ensures)) in
    (quiet.0, subst (λ (o : PlainOperator). IsQuiet quiet.0 c.args.until o.state) (sym (c.loop-number.invariant.rest c.loop-number.number (omega arith))) quiet.1)

pub loop-number-preserved : goal.loop-number-preserved
loop-number-preserved c =
    let number = c.loop-number.number in
    let old = c.args.operators.now.items in
    let new = c.pass_at.new.operators.items in
    record {
      many = c.pass_at.ensures.only.many ∙ c.loop-number.invariant.many;
      done = λ k lt. ⊎_elim
          (λ (less : k < number). subst (IsPassed c.args.until (operator_at old k)) (sym (c.pass_at.ensures.only.others k (λ e. absurd (omega (arith, e, less))))) (c.loop-number.invariant.done k less))
          (λ (reached : number ≤ k).
          let same : number ≡ k = omega (arith, lt, reached) in
          subst (λ i. IsPassed c.args.until (operator_at old i) (operator_at new i)) same
          (subst (λ o. IsPassed c.args.until o (operator_at new number)) (c.loop-number.invariant.rest number (omega arith)) c.pass_at.ensures.passed))
          (cases_lt k number);
      rest = λ k le. c.pass_at.ensures.only.others k (λ e. absurd (omega (arith, e, le))) ∙ c.loop-number.invariant.rest k (omega (arith, le));
    }

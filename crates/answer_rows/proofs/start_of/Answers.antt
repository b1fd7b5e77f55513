use Rattle.std.proofs.Common.{◌≡◌, ◌-◌, ◌∙◌, ap, refl, arith, ℕ, suc}
use Rattle.answer_rows.specs.Rows.{starts_at}
use Rattle.answer_rows.proofs.RowLemmas.{starts-next}
use Rattle.answer_rows.proofs.start_of.Goals as goal

pub returns-then-number-eq0 : goal.returns-then-number-eq0
returns-then-number-eq0 c = rw c.if-number-eq0.true refl

pub returns : goal.returns
returns c =
    let next : suc (c.args.number - 1) ≡ c.args.number = omega (arith, c.if-number-eq0.false) in
    starts-next 0 c.args.heads.now (c.args.number - 1) _ (omega (arith, c.requires, next)) ∙ ap (λ (n : ℕ). starts_at 0 c.args.heads.now n) next

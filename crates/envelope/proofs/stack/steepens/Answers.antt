use Rattle.std.proofs.Common.{◌≡◌, ◌+◌, ◌-◌, ◌*◌, ◌<◌, ◌≤◌, MatchBool, ℕ, arith, inl, inr, ap, subst, sym}
use Rattle.std.proofs.lemmas.Bool.Decides.{leb_tells}
use lib.Dec.{leb}
use Rattle.envelope.specs.declared.chart.Point.{Point}
use Rattle.envelope.specs.Chart.{NoSteeper}
use Rattle.envelope.proofs.stack.steepens.Goals as goal

by_test : (a b : ℕ) (P Q : Type 0) → (a ≤ b → P) → (b < a → Q) → MatchBool (leb a b) P Q
by_test a b P Q p q =
    elim (leb_tells a b) [
      | inl h ↦ subst (λ w. MatchBool w P Q) (sym h.0) (p h.1)
      | inr h ↦ subst (λ w. MatchBool w P Q) (sym h.0) (q h.1)
    ]

flat_from : (a b c : Point) → a.t < b.t → b.t < c.t → b.s * (c.t - a.t) < a.s * (c.t - b.t) + c.s * (b.t - a.t) → NoSteeper a b c
flat_from a b c g h p =
    let e : c.t - a.t ≡ (b.t - a.t) + (c.t - b.t) = omega arith in
    record { by_products = omega (arith, ap (λ w. b.s * w) e) }

pub returns-clause-answer : goal.returns-clause-answer
returns-clause-answer g c =
    by_test _ _ _ _ (λ h. record { by_products = h }) (λ h. flat_from c.args.a c.args.b c.args.c c.requires.order.0 c.requires.order.1 h)

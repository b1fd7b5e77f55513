use Rattle.std.proofs.Common.{arith, None, refl}
use Rattle.std.proofs.lemmas.List.{ext_get_or}
use Rattle.turn.proofs.same_items.same_column.Goals as goal

pub returns : goal.returns
returns c = (
  λ _. ext_get_or None c.args.a.now c.args.b.now (omega (arith, c.if-len.false, c.len.ensures.value, c.len-2.ensures.value))
      (λ k h. c.loop-place.invariant k (omega (arith, h, c.loop-place-test.false, c.loop-place.auto.place-end, c.len-place-end.ensures.value))),
  λ _. refl,
)

use Rattle.std.proofs.Common.{arith, false, refl}
use Rattle.std.proofs.lemmas.List.{ext_get_or}
use Rattle.turn.specs.Same.{leaving}
use Rattle.turn.proofs.SameLemmas.{length-leaving, same_length}
use Rattle.turn.proofs.same_items.have_same_signs.Goals as goal

pub returns : goal.returns
returns c =
    let a = c.args.a.now in
    let b = c.args.b.now in (
      λ _. ext_get_or false (leaving a) (leaving b) (same_length a b (omega (arith, c.requires)))
          (λ k h. c.loop-place.invariant k (omega (arith, h, length-leaving a, c.loop-place-test.false, c.loop-place.auto.place-end, c.len-place-end.ensures.value))),
      λ _. refl,
    )

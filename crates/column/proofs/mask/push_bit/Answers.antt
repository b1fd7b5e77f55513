use Rattle.std.proofs.Common.{◌≡◌, ◌∙◌, ap, sym, ◌==◌, arith}
use Rattle.column.specs.Bits.{place}
use Rattle.column.proofs.BitLemmas.{bits_grown}
use Rattle.column.proofs.mask.push_bit.Goals as goal

pub returns-then-truth-clause-value : goal.returns-then-truth-clause-value
returns-then-truth-clause-value c =
    bits_grown c.args.words.now c.set_bit.new.words c.args.at c.args.truth (λ i h. c.set_bit.ensures.same i h ∙ c.in_ok-make_room.ensures.same i) (ap (λ n. n == 1) c.set_bit.ensures.set ∙ sym c.if-truth.true)

pub returns-else-truth-clause-value : goal.returns-else-truth-clause-value
returns-else-truth-clause-value c =
    let none : place c.make_room.new.words c.args.at ≡ 0 = c.in_ok-make_room.ensures.same c.args.at ∙ c.requires.clear.clear c.args.at (omega arith) in
    bits_grown c.args.words.now c.make_room.new.words c.args.at c.args.truth (λ i h. c.in_ok-make_room.ensures.same i) (ap (λ n. n == 1) none ∙ sym c.if-truth.false)

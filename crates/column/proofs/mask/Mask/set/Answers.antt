use Rattle.std.proofs.Common.{arith, ◌<◌, ◌∙◌}
use Rattle.column.proofs.BitLemmas.{bits_flipped, length-seen, still_clear, truth_differs}
use Rattle.column.proofs.mask.Mask.set.Goals as goal

pub flip_bit-requires : goal.flip_bit-requires
flip_bit-requires c = omega (arith, c.requires, c.self.invariant.0.words_fit, length-seen _ _ _ c.self.view_is)

pub invariant_of-self : goal.invariant_of-self
invariant_of-self c =
    (still_clear c.self.inside.words c.flip_bit.new.words c.self.inside.len c.args.i c.self.invariant.0 c.flip_bit.ensures.len (omega (arith, c.requires, length-seen _ _ _ c.self.view_is)) c.flip_bit.ensures.same, c.self.invariant.1)

pub returns-then-get-truth : goal.returns-then-get-truth
returns-then-get-truth c =
    let n : c.args.i < c.self.inside.len = omega (arith, c.requires, length-seen _ _ _ c.self.view_is) in
    bits_flipped c.self.inside.len c.self.inside.words c.flip_bit.new.words c.args.self.now c.args.i c.args.truth c.self.view_is n c.flip_bit.ensures.flipped c.flip_bit.ensures.same
    (λ f. truth_differs c.get.result c.args.truth c.if-get-truth.true (c.get.ensures ∙ f))

use Rattle.std.proofs.Common.{arith, ap, ◌∙◌, length, ◌/◌, ◌+◌, length-take}
use Rattle.column.specs.Bits.{place}
use Rattle.column.proofs.BitLemmas.{bits_first, length-seen}
use Rattle.column.proofs.mask.Mask.truncate.Goals as goal

pub overflow_add-count : goal.overflow_add-count
overflow_add-count c = omega (arith, c.requires, c.self.invariant.1, length-seen _ _ _ c.self.view_is)

pub clear_past-requires : goal.clear_past-requires
clear_past-requires c =
    omega (arith, c.requires, ap length c.truncate.ensures, length-take ((c.args.count + 63) / 64) c.self.inside.words, c.self.invariant.0.words_fit, length-seen _ _ _ c.self.view_is)

pub invariant_of-self : goal.invariant_of-self
invariant_of-self c = (c.clear_past.ensures.clear, omega (arith, c.requires, c.self.invariant.1, length-seen _ _ _ c.self.view_is))

pub returns : goal.returns
returns c =
    bits_first c.self.inside.len c.args.count c.self.inside.words c.clear_past.new.words c.args.self.now c.self.view_is (omega (arith, c.requires, length-seen _ _ _ c.self.view_is))
    (λ i h. c.clear_past.ensures.same i h ∙ ap (λ ws. place ws i) c.truncate.ensures)

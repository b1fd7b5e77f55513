use Rattle.std.proofs.Common.{arith, ◌∙◌, ap₂, ◌≡◌, ◌+◌, ◌*◌, ◌+ℤ◌, ℤ, sym, subst, to_z, of_z}
use Rattle.std.proofs.Math.Facts.{Fits-lt-pow}
use Rattle.std.proofs.lemmas.Int.{to_z-of_z}
use Rattle.std.specs.Int.Bits.{and_lt}
use Rattle.column.specs.Bits.{bits}
use Rattle.column.proofs.BitLemmas.{length-bits}
use Rattle.lane_kernels.specs.Lanes.{signed_truths}
use Rattle.lane_kernels.proofs.SignLemmas.{word_more, truths_fit}
use Rattle.lane_kernels.proofs.count.count_truths.Goals as goal
use mir.Val.{SFits}
use mir.Syntax.{w64}

-- the sum with one word more
summed : (c : goal.After-count_word-total) → to_z w64 c.loop-w.total-bits +ℤ to_z w64 (of_z w64 c.count_word-total.result) ≡ signed_truths (bits (64 * (c.loop-w.w + 1)) c.args.minus.now) (bits (64 * (c.loop-w.w + 1)) c.args.valid.now)
summed c =
    ap₂ (λ (a b : ℤ). a +ℤ b) c.loop-w.invariant (to_z-of_z w64 c.count_word-total.result (record { sfits = c.count_word-total.type_inv }) ∙ c.count_word-total.ensures)
    ∙ word_more c.args.valid.now c.args.minus.now c.loop-w.w (Fits-lt-pow (c.type_inv.valid c.loop-w.w)) (and_lt 64 _ _ (Fits-lt-pow (c.type_inv.valid c.loop-w.w)) (Fits-lt-pow (c.type_inv.minus c.loop-w.w)))

fits : (c : goal.After-count_word-total) → SFits w64 (to_z w64 c.loop-w.total-bits +ℤ to_z w64 (of_z w64 c.count_word-total.result))
fits c = subst (λ (z : ℤ). SFits w64 z) (sym (summed c)) (truths_fit (bits (64 * (c.loop-w.w + 1)) c.args.minus.now) (bits (64 * (c.loop-w.w + 1)) c.args.valid.now) (omega (arith, length-bits (64 * (c.loop-w.w + 1)) c.args.valid.now, c.loop-w-test.true, c.requires.few)))

pub overflow_add-total : goal.overflow_add-total
overflow_add-total c = fits c

pub loop-w-preserved : goal.loop-w-preserved
loop-w-preserved c = to_z-of_z w64 _ (fits c) ∙ summed c

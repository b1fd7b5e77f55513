use Rattle.std.proofs.Common.{arith, ◌∙◌, ap, ◌≡◌, ◌+◌, ◌*◌, get_or, count_by, refl}
use Rattle.std.proofs.Math.Facts.{Fits-bits, Fits-lt-pow}
use Rattle.std.specs.Int.RustNames.{count_ones}
use Rattle.column.specs.Bits.{bits}
use Rattle.lane_kernels.proofs.CountLemmas.{counted_more, count_small}
use Rattle.lane_kernels.proofs.count.count_set.Goals as goal

pub overflow_add-total : goal.overflow_add-total
overflow_add-total c =
    let more : count_by (λ b. b) (bits (64 * c.loop-word.word-index) c.args.words.now) + count_ones (get_or c.args.words.now c.loop-word.word-index 0) ≡ count_by (λ b. b) (bits (64 * (c.loop-word.word-index + 1)) c.args.words.now) =
    counted_more c.args.words.now c.loop-word.word-index _ (Fits-lt-pow (c.type_inv.words c.loop-word.word-index)) refl in
    Fits-bits 32 tt (omega (arith, more, c.loop-word.invariant, count_small c.args.words.now (64 * (c.loop-word.word-index + 1))))

pub loop-word-preserved : goal.loop-word-preserved
loop-word-preserved c =
    ap (λ n. n + count_ones (get_or c.args.words.now c.loop-word.word-index 0)) c.loop-word.invariant
    ∙ counted_more c.args.words.now c.loop-word.word-index _ (Fits-lt-pow (c.type_inv.words c.loop-word.word-index)) refl

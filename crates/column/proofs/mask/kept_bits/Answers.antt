use Rattle.std.proofs.Common.{arith, refl}
use Rattle.column.proofs.KeptLemmas.{AreKeptBits-yes, AreKeptBits-no}
use Rattle.column.proofs.mask.kept_bits.Goals.{then-choice-i-eq1, else-choice-i-eq1}
use Rattle.column.proofs.mask.kept_bits.Goals as goal

pub loop-i-preserved : goal.loop-i-preserved
loop-i-preserved c =
    elim c.if-choice-i-eq1.branch [
      | then-choice-i-eq1 w ↦
          rw (w.kept-is, w.count-is)
          (AreKeptBits-yes c.args.choice c.args.word c.loop-i.i c.loop-i.kept w.with_truth-kept.result c.loop-i.count _ (omega arith) c.loop-i.invariant w.if-choice-i-eq1.true refl w.with_truth-kept.ensures.value w.with_truth-kept.ensures.clear)
      | else-choice-i-eq1 w ↦
          rw (w.kept-is, w.count-is)
          (AreKeptBits-no c.args.choice c.args.word c.loop-i.i c.loop-i.kept c.loop-i.count (omega arith) c.loop-i.invariant w.if-choice-i-eq1.false)
    ]

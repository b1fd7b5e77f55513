use Rattle.std.proofs.Common.{◌∙◌, ◌<◌, arith, sym, length, false}
use Rattle.column.proofs.KeptLemmas.{IsKept-yes, IsKept-no, kept_all}
use Rattle.column.proofs.mask.Mask.keep_each.Goals.{then-get, else-get}
use Rattle.column.proofs.mask.Mask.keep_each.Goals as goal

pub loop-i-preserved : goal.loop-i-preserved
loop-i-preserved c =
    let h : c.loop-i.i < length c.args.self.now = omega arith in
    elim c.if-get.branch [
      | then-get w ↦
          rw (w.kept-is, w.self-is, w.set.ensures)
          (IsKept-yes c.args.mask.now c.args.self.now c.loop-i.kept c.loop-i.i c.loop-i.self w.get-truth.result false c.requires h (sym c.get.ensures ∙ w.if-get.true) w.get-truth.ensures c.loop-i.invariant)
      | else-get w ↦
          rw (w.kept-is, w.self-is)
          (IsKept-no c.args.mask.now c.args.self.now c.loop-i.kept c.loop-i.i c.loop-i.self false c.requires h (sym c.get.ensures ∙ w.if-get.false) c.loop-i.invariant)
    ]

pub returns : goal.returns
returns c = c.truncate.ensures ∙ kept_all c.args.mask.now c.args.self.now c.loop-i.kept c.loop-i.i c.loop-i.self c.requires (omega arith) c.loop-i.invariant

use Rattle.std.proofs.Common.{◌∙◌, ◌<◌, arith, sym, length, pos}
use Rattle.column.proofs.KeptLemmas.{IsKept-no, IsKept-swap, kept_all}
use Rattle.column.proofs.column.move_kept.Goals.{then-get, else-get}
use Rattle.column.proofs.column.move_kept.Goals as goal

pub loop-i-preserved : goal.loop-i-preserved
loop-i-preserved c =
    let h : c.loop-i.i < length c.args.numbers.now = omega (arith, c.loop-i.invariant.long) in
    elim c.if-get.branch [
      | then-get w ↦
          rw (w.kept-is, w.numbers-is)
          (IsKept-swap c.args.mask.now c.args.numbers.now c.loop-i.kept c.loop-i.i c.loop-i.numbers w.swap.new.self (pos 0) c.requires h (sym c.get.ensures ∙ w.if-get.true) (w.swap.ensures.by_index.3 (pos 0)) c.loop-i.invariant)
      | else-get w ↦
          rw (w.kept-is, w.numbers-is)
          (IsKept-no c.args.mask.now c.args.numbers.now c.loop-i.kept c.loop-i.i c.loop-i.numbers (pos 0) c.requires h (sym c.get.ensures ∙ w.if-get.false) c.loop-i.invariant)
    ]

pub returns : goal.returns
returns c = kept_all c.args.mask.now c.args.numbers.now c.loop-i.kept c.loop-i.i c.loop-i.numbers c.requires (omega (arith, c.loop-i.invariant.long)) c.loop-i.invariant

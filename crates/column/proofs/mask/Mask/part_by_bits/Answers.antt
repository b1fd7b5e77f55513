use Rattle.std.proofs.Common.{arith, ◌∙◌, ap, sym, ◌++◌, ◌∷◌, [], false, min, slice_range}
use Rattle.column.proofs.Slices.{slice_range_more, slice_range_cut}
use Rattle.column.proofs.mask.Mask.part_by_bits.Goals as goal

pub loop-i-preserved : goal.loop-i-preserved
loop-i-preserved c = record {
  seen = c.in_ok-push.ensures.ok ∙ ap (λ l. l ++ c.get.result ∷ []) c.loop-i.invariant.seen ∙ ap (λ v. slice_range c.args.self.now c.args.from c.loop-i.i ++ v ∷ []) c.get.ensures ∙ sym (slice_range_more c.args.self.now c.args.from c.loop-i.i false (omega arith) (omega arith));
  empty = λ h. absurd (omega arith);
}

pub returns : goal.returns
returns c = c.loop-i.invariant.seen ∙ slice_range_cut c.args.self.now c.args.from c.args.to c.min-end.result c.loop-i.i (c.min-end.ensures ∙ ap (min c.args.to) c.len.ensures.value) (omega arith) (omega arith) (λ h. omega arith) c.loop-i.invariant.empty

use Rattle.std.proofs.Common.{◌∙◌, sym, ap, length}
use Rattle.reference.proofs.KeptLemmas.{input-kept, input-passed, next-fits}
use Rattle.reference.proofs.stream.copy_input.Goals as goal
use Rattle.reference.proofs.stream.copy_input.Goals.{then-counts+in_ok-push, else-counts}

pub loop-i-preserved : goal.loop-i-preserved
loop-i-preserved c =
    let i = c.loop-i.i in
    let old = c.loop-i.invariant in
    let fits = next-fits c.args.width c.args.instants.now i c.loop-i.rest.now c.loop-i-test.true old.all in
    record {
      whole =
          elim c.if-counts.branch [
            | then-counts+in_ok-push w ↦
                rw w.input-is (input-kept c.args.arrivals c.args.first c.args.width c.args.instants.now i _ c.loop-i.rest.now c.split_at.result.1.now c.loop-i.input.items _ w.row_of.result _ c.loop-i-test.true
                (sym c.counts.ensures ∙ w.if-counts.true) (w.row_of.ensures ∙ c.split_at.ensures.front) c.split_at.ensures.back w.in_ok-push.ensures.items old.whole)
            | else-counts w ↦
                rw w.input-is (input-passed c.args.arrivals c.args.first c.args.width c.args.instants.now i _ c.loop-i.rest.now c.split_at.result.1.now c.loop-i.input.items _ c.loop-i-test.true
                (sym c.counts.ensures ∙ w.if-counts.false) c.split_at.ensures.back old.whole)
          ];
      all = ap length c.split_at.ensures.back ∙ fits.1;
    }

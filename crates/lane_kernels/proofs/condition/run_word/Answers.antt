use Rattle.std.proofs.Common.{arith, ℕ, Bool, Option, List, subst, sym, length, reverse, get_or, true, [], ◌*◌, ◌+◌}
use Rattle.std.proofs.Math.ListN.{drop}
use Rattle.column.specs.Rows.{width}
use Rattle.lane_kernels.specs.Steps.{AreHeld, StepsFit}
use Rattle.lane_kernels.proofs.ConditionLemmas.{steps_more, fits_more}
use Rattle.lane_kernels.proofs.condition.run_word.Goals as goal

pub loop-step-preserved : goal.loop-step-preserved
loop-step-preserved c = record {
  tall = c.run_step.ensures.tall;
  fits =
      let P : ℕ → Type 0 = λ n. StepsFit (width c.args.batch.now) n (drop (c.loop-step.step-index + 1) c.args.steps.now) in
      subst P (sym c.run_step.ensures.height) (fits_more c.args.steps.now c.loop-step.step-index (width c.args.batch.now) (length c.loop-step.stack.items) _ (omega arith) c.loop-step.invariant.fits).1;
  rows = λ k h l.
      let P : List (Option Bool) → Type 0 = λ vs. AreHeld k (reverse c.run_step.new.stack.items) vs in
      subst P (sym (steps_more c.args.steps.now c.loop-step.step-index _ (get_or c.args.batch.now (64 * c.args.w + k) (true, [])).1 (omega arith))) (c.run_step.ensures.rows k _ h l (c.loop-step.invariant.rows k h l));
}

use Rattle.std.proofs.Common.{sym, subst, reverse, true, [], ◌*◌, ◌+◌, get_or}
use Rattle.lane_kernels.specs.Steps.{AreHeld, after}
use Rattle.lane_kernels.specs.declared.condition.Step.{Step}
use Rattle.lane_kernels.proofs.ConditionLemmas.{and_step, or_step, not_step}
use Rattle.lane_kernels.proofs.condition.run_step.Goals as goal

pub returns-in-And-clause-rows : goal.returns-in-And-clause-rows
returns-in-And-clause-rows c = λ k vs h l p.
    let P : Step → Type 0 = λ s. AreHeld k (reverse c.push-in-And.new.stack.items) (after s (get_or c.args.batch.now (64 * c.args.w + k) (true, [])).1 vs) in
    subst P (sym c.in-And.is) (and_step k _ _ _ _ _ _ _ (get_or c.args.batch.now (64 * c.args.w + k) (true, [])).1 vs c.pop-b.ensures.items c.pop-a.ensures.items c.push-in-And.ensures.items (c.and_word.ensures k) p)

pub returns-in-Or-clause-rows : goal.returns-in-Or-clause-rows
returns-in-Or-clause-rows c = λ k vs h l p.
    let P : Step → Type 0 = λ s. AreHeld k (reverse c.push-in-Or.new.stack.items) (after s (get_or c.args.batch.now (64 * c.args.w + k) (true, [])).1 vs) in
    subst P (sym c.in-Or.is) (or_step k _ _ _ _ _ _ _ (get_or c.args.batch.now (64 * c.args.w + k) (true, [])).1 vs c.pop-b-in-Or.ensures.items c.pop-a-in-Or.ensures.items c.push-in-Or.ensures.items (c.or_word.ensures k) p)

pub returns-in-Not-clause-rows : goal.returns-in-Not-clause-rows
returns-in-Not-clause-rows c = λ k vs h l p.
    let P : Step → Type 0 = λ s. AreHeld k (reverse c.push-in-Not.new.stack.items) (after s (get_or c.args.batch.now (64 * c.args.w + k) (true, [])).1 vs) in
    subst P (sym c.in-Not.is) (not_step k _ _ _ _ _ (get_or c.args.batch.now (64 * c.args.w + k) (true, [])).1 vs c.pop-a-in-Not.ensures.items c.push-in-Not.ensures.items (c.not_word.ensures k) p)

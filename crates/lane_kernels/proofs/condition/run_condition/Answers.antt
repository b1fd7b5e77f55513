use Rattle.std.proofs.Common.{arith, ap, ◌∙◌, ◌≡◌, ◌<◌, ◌*◌, ◌+◌, ◌-◌, ℕ, Bool, Option, None, true, [], subst, sym, length, map, min}
use Rattle.std.proofs.lemmas.List.{length-map, get_or-map}
use Rattle.lane_kernels.specs.Steps.{IsHeld, steps_truth}
use Rattle.lane_kernels.specs.Truth.{IsTruth, truths}
use Rattle.lane_kernels.proofs.ConditionLemmas.{run_more, truths_run, IsTruth-run}
use Rattle.lane_kernels.proofs.condition.run_condition.Goals as goal

pub loop-w-preserved : goal.loop-w-preserved
loop-w-preserved c =
    let n : length (map (λ r. steps_truth c.args.steps.now r.1) c.args.batch.now) ≡ length c.args.batch.now = length-map c.args.batch.now (λ r. steps_truth c.args.steps.now r.1) in
    run_more (map (λ r. steps_truth c.args.steps.now r.1) c.args.batch.now) _ _ c.loop-w.w c.run_word-found.result c.min.result _ (omega arith) (omega arith)
    (c.min.ensures ∙ ap (λ m. min (m - c.loop-w.w * 64) 64) (c.len-rows.ensures.value ∙ sym n))
    (λ k h l.
    let j : 64 * c.loop-w.w + k < length c.args.batch.now = omega (arith, n, l) in
    let P : Option Bool → Type 0 = λ v. IsHeld k c.run_word-found.result v in
    subst P (sym (get_or-map (λ r. steps_truth c.args.steps.now r.1) c.args.batch.now (64 * c.loop-w.w + k) (true, []) None j)) (c.run_word-found.ensures k h j))
    c.first_places-inside.ensures.inside c.first_places-inside.ensures.outside c.loop-w.invariant

pub returns-clause-value : goal.returns-clause-value
returns-clause-value c =
    let n : length (map (λ r. steps_truth c.args.steps.now r.1) c.args.batch.now) ≡ length c.args.batch.now = length-map c.args.batch.now (λ r. steps_truth c.args.steps.now r.1) in
    ap (λ m. truths m c.loop-w.truth c.loop-w.known) (sym n)
    ∙ truths_run (map (λ r. steps_truth c.args.steps.now r.1) c.args.batch.now) c.loop-w.truth c.loop-w.known (omega (arith, n)) (λ w h. c.loop-w.invariant w (omega arith))

pub returns-clause-well_formed : goal.returns-clause-well_formed
returns-clause-well_formed c =
    let n : length (map (λ r. steps_truth c.args.steps.now r.1) c.args.batch.now) ≡ length c.args.batch.now = length-map c.args.batch.now (λ r. steps_truth c.args.steps.now r.1) in
    let P : ℕ → Type 0 = λ m. IsTruth m c.loop-w.truth c.loop-w.known in
    subst P n (IsTruth-run (map (λ r. steps_truth c.args.steps.now r.1) c.args.batch.now) c.loop-w.truth c.loop-w.known (omega (arith, n)) (omega arith) (λ w h. c.loop-w.invariant w (omega arith)))

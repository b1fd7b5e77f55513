use Rattle.std.proofs.Common.{◌≡◌, List, [], ap, sym, ◌∙◌, subst, rules}
use Rattle.values.specs.Resolved as resolved
use Rattle.lane_kernels.specs.Steps.{StepsFit, steps_truth, top}
use Rattle.lane_kernels.specs.declared.condition.Step.{Step}
use Rattle.row_nodes.specs.Steps.{steps_of}
use Rattle.row_nodes.proofs.StepLemmas.{steps_mean, whole_fits}
use Rattle.row_nodes.proofs.postfix.steps.Goals as goal

pub returns-clause-means : goal.returns-clause-means
returns-clause-means c = λ row.
    let e : c.add.new.steps.items ≡ steps_of (resolved.condition_of c.args.condition.now) = search rules in
    ap (λ ss. steps_truth ss row) e ∙ ap top (steps_mean (resolved.condition_of c.args.condition.now) row [] c.requires)

pub returns-clause-fits : goal.returns-clause-fits
returns-clause-fits c = λ w i l.
    let P : List Step → Type 0 = λ ss. StepsFit w 0 ss in
    subst P (sym (search rules)) (whole_fits (resolved.condition_of c.args.condition.now) w i l)

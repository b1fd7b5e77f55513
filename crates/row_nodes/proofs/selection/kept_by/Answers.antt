use Rattle.std.proofs.Common.{ap, ◌∙◌, sym, length, subst, ℕ, rules}
use Rattle.column.specs.Bits.{IsClear}
use Rattle.lane_kernels.specs.Steps.{steps_truth}
use Rattle.column.specs.Bits.{bits}
use Rattle.row_nodes.proofs.SelectLemmas.{clear_truth, kept_mask}
use Rattle.row_nodes.proofs.selection.kept_by.Goals as goal

pub from_words-requires-clause-clear : goal.from_words-requires-clause-clear
from_words-requires-clause-clear c =
    let P : ℕ → Type 0 = λ n. IsClear n c.run_condition.new.truth in
    subst P (sym c.len.ensures.value) (clear_truth (length c.args.batch.now) c.run_condition.new.truth c.run_condition.new.known (search rules) c.run_condition.ensures.well_formed)

pub returns : goal.returns
returns c =
    c.in_ok-mask.ensures
    ∙ ap (λ n. bits n c.run_condition.new.truth) c.len.ensures.value
    ∙ kept_mask (λ r. steps_truth c.args.steps.now r.1) c.args.batch.now c.run_condition.new.truth c.run_condition.new.known c.run_condition.ensures.value c.run_condition.ensures.well_formed

use Rattle.std.proofs.Common.{◌∙◌, sym}
use Rattle.std.proofs.lemmas.Bool.{cond-true, cond-false}
use Rattle.cql_reader.specs.Prediction.{firsts}
use Rattle.cql_reader.proofs.Steps.{pick_step, pick_end}
use Rattle.cql_reader.proofs.choice.beginning.Goals as goal

pub returns-then-begins : goal.returns-then-begins
returns-then-begins c =
    sym c.loop-symbols.invariant ∙ pick_step (λ symbols. symbols.now) (λ ys. firsts ys c.args.kind) c.args.alternatives.now c.loop-symbols.symbols-index _ c.loop-symbols-test.true ∙ cond-true _ _ _ (sym c.if-begins.ensures)

pub loop-symbols-preserved : goal.loop-symbols-preserved
loop-symbols-preserved c =
    sym (pick_step (λ symbols. symbols.now) (λ ys. firsts ys c.args.kind) c.args.alternatives.now c.loop-symbols.symbols-index _ c.loop-symbols-test.true ∙ cond-false _ _ _ (sym c.if-begins.ensures)) ∙ c.loop-symbols.invariant

pub returns : goal.returns
returns c = sym c.loop-symbols.invariant ∙ pick_end (λ symbols. symbols.now) (λ ys. firsts ys c.args.kind) c.args.alternatives.now c.loop-symbols.symbols-index c.loop-symbols-test.false

-- A query that runs is one running query; after an error only its answers are as they were.
use Rattle.std.proofs.Common.{refl, sym, ap, ◌∙◌}
use Rattle.std.proofs.lemmas.Result.{on_err_weaker}
use Rattle.laws_engine.proofs.BackLemmas.{same_plain}
use Rattle.leases.proofs.state.finish.take_turn.Goals as goal

pub returns-clause-err : goal.returns-clause-err
returns-clause-err c = on_err_weaker c.finish.result
    (λ same p is. (c.finish.new.self, (refl, same ∙ ap (λ z. z.answers) (same_plain (sym c.running_mut.ensures.value ∙ is)))))
    c.finish.ensures.err

-- Where memory runs out in a turn, nothing was passed before it.
use Rattle.std.proofs.Common.{◌≡◌, ◌∙◌, subst}
use Rattle.leases.specs.Drains.{RanOutBelow}
use Rattle.leases.specs.Shown.{engine_in}
use Rattle.leases.specs.declared.state.EngineState.{EngineState}
use Rattle.leases.proofs.state.EngineState.run_first.Goals.{else-settled-via-then-settled+else-passes, else-settled-via-else-settled}
use Rattle.leases.proofs.state.EngineState.run_first.Goals as goal

pub returns-in_err-settled-in-Some-clause-below : goal.returns-in_err-settled-in-Some-clause-below
returns-in_err-settled-in-Some-clause-below c = λ out.
    subst (λ (s : EngineState). RanOutBelow c.args.rows c.args.until (engine_in s) (engine_in c.run_slot.new.self)) same c.in_err-settled-in-Some.ensures.below
  where
    same : c.else-settled.self ≡ c.args.self.now
    same = elim c.else-settled.branch [
      | else-settled-via-then-settled+else-passes w ↦ w.self-is ∙ w.passes.ensures.still w.if-passes.false
      | else-settled-via-else-settled w ↦ w.self-is
    ]

-- The query of the last job comes home, with its slots.
use Rattle.std.proofs.Common.{◌∙◌, ap, refl, subst, sym}
use Rattle.std.specs.List.{AllByRecursion}
use Rattle.laws_engine.specs.Engines.{PlainEngine}
use Rattle.leases.specs.Applied.{AllStand}
use Rattle.leases.specs.Asked.{HasOperatorAt}
use Rattle.leases.specs.Readers.{with_slots, with_updates}
use Rattle.leases.specs.Shown.{engine_in}
use Rattle.leases.proofs.JobLemmas.{has_numbers, home_runs, may_change, slots_stand, within}
use Rattle.leases.specs.declared.state.EngineState.{EngineState}
use Rattle.leases.proofs.state.EngineState.take_home.Goals as goal

pub put_back-requires-clause-here : goal.put_back-requires-clause-here
put_back-requires-clause-here c = within c.requires.0 c.requires.1.0 c.requires.1.1.0 c.args.job c.args.self.now c.requires.1.1.1

pub put_back-requires-clause-numbers : goal.put_back-requires-clause-numbers
put_back-requires-clause-numbers c = has_numbers c.requires.0 c.requires.1.0 c.requires.1.1.0 c.args.job c.args.self.now c.requires.1.1.1

pub update_standing_slots-requires-clause-here : goal.update_standing_slots-requires-clause-here
update_standing_slots-requires-clause-here c =
    subst (AllByRecursion (λ s. HasOperatorAt (engine_in c.put_back.new.self) s.query s.operator)) (sym c.deref.ensures.value)
    (may_change c.requires.0 c.requires.1.0 c.requires.1.1.0 c.args.job c.args.self.now c.requires.1.1.1 c.put_back.new.self c.put_back.ensures.engine c.put_back.ensures.undropped c.put_back.ensures.readers c.put_back.ensures.leases)

pub update_standing_slots-requires-clause-stand : goal.update_standing_slots-requires-clause-stand
update_standing_slots-requires-clause-stand c =
    subst (AllStand c.put_back.new.self.slots) (sym c.deref.ensures.value)
    (slots_stand c.requires.0 c.requires.1.0 c.requires.1.1.0 c.args.job c.args.self.now c.requires.1.1.1 c.put_back.new.self c.put_back.ensures.engine c.put_back.ensures.undropped c.put_back.ensures.readers c.put_back.ensures.leases)

pub returns-clause-home : goal.returns-clause-home
returns-clause-home c = λ e rows rest out.
    home_runs e rows rest c.args.job c.args.self.now out c.put_back.new.self c.put_back.ensures.engine c.put_back.ensures.undropped c.put_back.ensures.readers c.put_back.ensures.leases c.update_standing_slots.new.self
    (c.update_standing_slots.ensures ∙ ap (λ ss. with_slots c.put_back.new.self (with_updates (engine_in c.put_back.new.self) ss c.put_back.new.self.slots)) c.deref.ensures.value) _ refl

pub returns-clause-next : goal.returns-clause-next
returns-clause-next c = ap (λ (z : EngineState). z.next) c.update_standing_slots.ensures ∙ ap (λ (z : PlainEngine). z.next) c.put_back.ensures.engine

-- What is left of the turns, and what is told after that.
use Rattle.std.proofs.Common.{rules, ◌≡◌, ◌==◌, not, filter, refl, sym, subst}
use Rattle.std.proofs.lemmas.Fn.{filter_same}
use Rattle.turn.specs.declared.turns.Turn.{Turn}
use Rattle.laws_engine.specs.Engines.{PlainEngine}
use Rattle.leases.specs.Applied.{GivesNothing, HasTold}
use Rattle.leases.specs.Shown.{engine_in}
use Rattle.leases.specs.declared.state.EngineState.{EngineState}
use Rattle.leases.proofs.FinishBackLemmas.{gives_on}
use Rattle.leases.proofs.LeaveLemmas.{may_tell_left, turn_ended, turn_gives_nothing}
use Rattle.leases.proofs.TurnsLemmas.{at_numbers, next_looked, tells}
use Rattle.leases.proofs.state.EngineState.end_turn.Goals as goal

pub next_for-next-requires : goal.next_for-next-requires
next_for-next-requires c =
    at_numbers (engine_in (record c.args.self.now { leases = c.retain.new.self })) c.args.slot c.query.result c.operator.result c.query.ensures c.operator.ensures
    (may_tell_left c.args.self.now c.retain.new.self c.args.slot c.args.above c.requires).here

pub update_slots-requires-clause-may_tell : goal.update_slots-requires-clause-may_tell
update_slots-requires-clause-may_tell c = may_tell_left c.args.self.now c.retain.new.self c.args.slot c.args.above c.requires

pub update_slots-requires-clause-next : goal.update_slots-requires-clause-next
update_slots-requires-clause-next c =
    next_looked (engine_in (record c.args.self.now { leases = c.retain.new.self })) c.args.slot c.query.result c.operator.result c.next_for-next.result c.query.ensures c.operator.ensures
    (may_tell_left c.args.self.now c.retain.new.self c.args.slot c.args.above c.requires).here c.next_for-next.ensures

pub returns-clause-ended : goal.returns-clause-ended
returns-clause-ended c =
    let left : c.retain.new.self.items ≡ filter (λ (g : Turn). not (g.lease == c.args.number)) c.args.self.now.leases.items =
    filter_same _ (λ (g : Turn). not (g.lease == c.args.number)) _ (λ x b f h. search rules) _ _ c.retain.ensures.filtered in
    let at : EngineState = record c.args.self.now { leases = c.retain.new.self } in
    subst (λ (e : PlainEngine). HasTold e c.args.slot c.args.above (engine_in c.update_slots.new.self)) (turn_ended c.args.self.now c.retain.new.self c.args.number left)
    (subst (λ (s : EngineState). HasTold (engine_in at) c.args.slot c.args.above (engine_in s)) (sym c.update_slots.ensures) (tells (engine_in at) c.args.slot c.args.above))

pub returns-clause-rest : goal.returns-clause-rest
returns-clause-rest c =
    let left : c.retain.new.self.items ≡ filter (λ (g : Turn). not (g.lease == c.args.number)) c.args.self.now.leases.items =
    filter_same _ (λ (g : Turn). not (g.lease == c.args.number)) _ (λ x b f h. search rules) _ _ c.retain.ensures.filtered in
    let at : EngineState = record c.args.self.now { leases = c.retain.new.self } in
    gives_on c.args.self.now at c.update_slots.new.self (turn_gives_nothing c.args.self.now c.retain.new.self c.args.number left)
    (subst (λ (s : EngineState). GivesNothing at s) (sym c.update_slots.ensures) (record { undropped = refl; readers = refl; leases = λ g i. i }))

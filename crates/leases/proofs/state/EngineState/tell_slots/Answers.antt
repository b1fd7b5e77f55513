-- What the operator may take next is looked up by its numbers.
use Rattle.leases.specs.Shown.{engine_in}
use Rattle.leases.proofs.TurnsLemmas.{at_numbers, next_looked}
use Rattle.leases.proofs.state.EngineState.tell_slots.Goals as goal

pub next_for-next-requires : goal.next_for-next-requires
next_for-next-requires c = at_numbers (engine_in c.args.self.now) c.args.slot.now c.query.result c.operator.result c.query.ensures c.operator.ensures c.requires.here

pub update_slots-requires-clause-next : goal.update_slots-requires-clause-next
update_slots-requires-clause-next c =
    next_looked (engine_in c.args.self.now) c.args.slot.now c.query.result c.operator.result c.next_for-next.result c.query.ensures c.operator.ensures c.requires.here c.next_for-next.ensures

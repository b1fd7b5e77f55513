-- The one above stands as it did before the first was told.
use Rattle.std.proofs.Common.{◌≢◌, MatchOption, Option, sym, subst}
use Rattle.std.specs.Prelude.{⊤}
use Rattle.run_queue.specs.Changes.{Stands}
use Rattle.run_queue.specs.declared.slots.Slot.{Slot}
use Rattle.run_queue.proofs.StandLemmas.{stands_on}
use Rattle.leases.proofs.state.EngineState.update_slots.Goals as goal

pub update_standing_slot-requires-clause-stands : goal.update_standing_slot-requires-clause-stands
update_standing_slot-requires-clause-stands c =
    let a : Slot = c.in-Some.above in
    let both : Stands a c.args.self.now.slots × (a.operator ≢ c.args.slot.now.operator) =
    subst (λ (o : Option Slot). MatchOption o ⊤ (λ z. Stands z c.args.self.now.slots × (z.operator ≢ c.args.slot.now.operator))) c.in-Some.is c.requires.may_tell.stand.1 in
    subst (Stands a) (sym c.update.ensures) (stands_on c.args.slot.now a c.args.next c.args.self.now.slots both.1 both.0)

use Rattle.std.proofs.Common.{◌≡◌, ◌+◌, ◌∙◌, ap, drop, refl, subst, sym}
use Rattle.run_queue.specs.declared.slots.Slot.{Slot}
use Rattle.leases.specs.Asked.{HasOperatorAt}
use Rattle.leases.specs.Applied.{AllStand}
use Rattle.leases.specs.Readers.{next_for, with_slots, with_update, with_updates}
use Rattle.leases.specs.Shown.{engine_in}
use Rattle.leases.specs.declared.state.EngineState.{EngineState}
use Rattle.leases.proofs.AllStandLemmas.{rest_stand, stand_next}
use Rattle.leases.proofs.ReaderLemmas.{all_next, asked_over, told_last, told_next, told_over}
use Rattle.leases.proofs.state.EngineState.update_standing_slots.Goals as goal

pub loop-place-init : goal.loop-place-init
loop-place-init c = record { same = refl; left = c.requires.here; stand = c.requires.stand; tells = refl }

pub update_standing_slot-requires-clause-here : goal.update_standing_slot-requires-clause-here
update_standing_slot-requires-clause-here c =
    let slot = c.index-slots-place.result in
    let here = all_next (λ (s : Slot). HasOperatorAt (engine_in c.args.self.now) s.query s.operator) c.args.slots.now c.loop-place.place slot c.loop-place-test.true c.index-slots-place.is c.loop-place.invariant.left in
    subst (λ (z : EngineState). HasOperatorAt (engine_in z) slot.query slot.operator) (sym c.loop-place.invariant.same) (asked_over c.args.self.now c.loop-place.self.slots slot.query slot.operator here.0)

pub update_standing_slot-requires-clause-stands : goal.update_standing_slot-requires-clause-stands
update_standing_slot-requires-clause-stands c =
    let slot = c.index-slots-place.result in
    (stand_next c.loop-place.self.slots c.args.slots.now c.loop-place.place slot c.loop-place-test.true c.index-slots-place.is c.loop-place.invariant.stand).0

pub loop-place-preserved : goal.loop-place-preserved
loop-place-preserved c =
    let slot = c.index-slots-place.result in
    let here = all_next (λ (s : Slot). HasOperatorAt (engine_in c.args.self.now) s.query s.operator) c.args.slots.now c.loop-place.place slot c.loop-place-test.true c.index-slots-place.is c.loop-place.invariant.left in
    let stands = stand_next c.loop-place.self.slots c.args.slots.now c.loop-place.place slot c.loop-place-test.true c.index-slots-place.is c.loop-place.invariant.stand in
    let is : c.update_standing_slot.new.self ≡ with_slots c.args.self.now (with_update (engine_in c.args.self.now) slot c.loop-place.self.slots) =
    told_over c.args.self.now c.loop-place.self c.update_standing_slot.new.self slot c.loop-place.invariant.same c.update_standing_slot.ensures in
    let slots : c.update_standing_slot.new.self.slots ≡ with_update (engine_in c.args.self.now) slot c.loop-place.self.slots = ap (λ (z : EngineState). z.slots) is in
    record {
      same = is ∙ ap (with_slots c.args.self.now) (sym slots);
      left = here.1;
      stand = subst (λ z. AllStand z (drop (c.loop-place.place + 1) c.args.slots.now)) (sym slots)
          (rest_stand slot (next_for (engine_in c.args.self.now) slot.query slot.operator) c.loop-place.self.slots (drop (c.loop-place.place + 1) c.args.slots.now) stands.1 stands.2);
      tells =
          ap (with_updates (engine_in c.args.self.now) (drop (c.loop-place.place + 1) c.args.slots.now)) slots
          ∙ sym (told_next (engine_in c.args.self.now) c.args.slots.now c.loop-place.place slot c.loop-place.self.slots c.loop-place-test.true c.index-slots-place.is)
          ∙ c.loop-place.invariant.tells;
    }

pub returns : goal.returns
returns c =
    c.loop-place.invariant.same
    ∙ ap (with_slots c.args.self.now) (sym (told_last (engine_in c.args.self.now) c.args.slots.now c.loop-place.place c.loop-place.self.slots c.loop-place-test.false) ∙ c.loop-place.invariant.tells)

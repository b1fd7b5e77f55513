use Rattle.std.proofs.Common.{◌≡◌, ◌+◌, ◌∙◌, ap, drop, refl, subst, sym}
use Rattle.run_queue.specs.declared.slots.Slot.{Slot}
use Rattle.leases.specs.Asked.{HasOperatorAt}
use Rattle.leases.specs.Readers.{with_slots, with_update, with_updates}
use Rattle.leases.specs.Shown.{engine_in}
use Rattle.leases.specs.declared.state.EngineState.{EngineState}
use Rattle.leases.proofs.ReaderLemmas.{all_next, asked_over, told_last, told_next, told_over}
use Rattle.leases.proofs.state.EngineState.change_slots.Goals as goal

pub loop-place-init : goal.loop-place-init
loop-place-init c = record { same = refl; left = c.requires; tells = refl }

pub change_slot-requires : goal.change_slot-requires
change_slot-requires c =
    let slot = c.index-slots-place.result in
    let here = all_next (λ (s : Slot). HasOperatorAt (engine_in c.args.self.now) s.query s.operator) c.args.slots.now c.loop-place.place slot c.loop-place-test.true c.index-slots-place.is c.loop-place.invariant.left in
    subst (λ (z : EngineState). HasOperatorAt (engine_in z) slot.query slot.operator) (sym c.loop-place.invariant.same) (asked_over c.args.self.now c.loop-place.self.slots slot.query slot.operator here.0)

pub loop-place-preserved : goal.loop-place-preserved
loop-place-preserved c =
    let slot = c.index-slots-place.result in
    let here = all_next (λ (s : Slot). HasOperatorAt (engine_in c.args.self.now) s.query s.operator) c.args.slots.now c.loop-place.place slot c.loop-place-test.true c.index-slots-place.is c.loop-place.invariant.left in
    let is : c.change_slot.new.self ≡ with_slots c.args.self.now (with_update (engine_in c.args.self.now) slot c.loop-place.self.slots) =
    told_over c.args.self.now c.loop-place.self c.change_slot.new.self slot c.loop-place.invariant.same c.change_slot.ensures in
    let slots : c.change_slot.new.self.slots ≡ with_update (engine_in c.args.self.now) slot c.loop-place.self.slots = ap (λ (z : EngineState). z.slots) is in
    record {
      same = is ∙ ap (with_slots c.args.self.now) (sym slots);
      left = here.1;
      tells =
          ap (with_updates (engine_in c.args.self.now) (drop (c.loop-place.place + 1) c.args.slots.now)) slots
          ∙ sym (told_next (engine_in c.args.self.now) c.args.slots.now c.loop-place.place slot c.loop-place.self.slots c.loop-place-test.true c.index-slots-place.is)
          ∙ c.loop-place.invariant.tells;
    }

pub returns : goal.returns
returns c =
    c.loop-place.invariant.same
    ∙ ap (with_slots c.args.self.now) (sym (told_last (engine_in c.args.self.now) c.args.slots.now c.loop-place.place c.loop-place.self.slots c.loop-place-test.false) ∙ c.loop-place.invariant.tells)

use Rattle.std.proofs.Common.{◌∙◌, refl, subst, sym, w64}
use Rattle.std.proofs.lemmas.Int.{to_z-of_z}
use Rattle.std.proofs.lemmas.Result.{err_from_is_err_and}
use Rattle.stream_store.specs.Arrivals.{Arrived}
use Rattle.laws_engine.specs.Calls.{IsHeartbeat}
use Rattle.leases.specs.Queues.{LengthensQueues}
use Rattle.leases.specs.Shown.{engine_in}
use Rattle.leases.proofs.BeatLemmas.{beats_does, beats_engine, beats_sound, heartbeat_lacked, heartbeat_refused, readers_asked}
use Rattle.leases.proofs.LengthenLemmas.{heartbeat_lengthens}
use Rattle.leases.proofs.state.EngineState.heartbeat.Goals as goal

pub returns-in_err-rows-clause-does : goal.returns-in_err-rows-clause-does
returns-in_err-rows-clause-does c =
    heartbeat_refused (λ (v : Arrived). v.elements) c.args.self.now c.args.stream c.args.at _ c.from_residual.result c.in_err-rows.field-0.0 (to_z-of_z w64 c.args.at c.ranges.at) c.from_residual.ensures.1 c.in_err-rows.ensures.looks

pub returns-in_err-slots-clause-does : goal.returns-in_err-slots-clause-does
returns-in_err-slots-clause-does c =
    let p = err_from_is_err_and c.from_residual-in_err-slots.result c.from_residual-in_err-slots.ensures.1 in
    rw (p.1, p.2) (heartbeat_lacked c.args.self.now c.args.self.now.streams c.args.stream c.args.at (simp (to_z-of_z w64 c.args.at c.ranges.at) at c.in_ok-rows.ensures.accepted) refl)

pub returns-in_err-close-clause-does : goal.returns-in_err-close-clause-does
returns-in_err-close-clause-does c =
    let p = err_from_is_err_and c.from_residual-in_err-close.result c.from_residual-in_err-close.ensures.1 in
    rw (p.1, p.2) (heartbeat_lacked c.args.self.now c.close.new.self c.args.stream c.args.at (simp (to_z-of_z w64 c.args.at c.ranges.at) at c.in_ok-rows.ensures.accepted) c.in_err-close.ensures.err)

pub change_slots-requires : goal.change_slots-requires
change_slots-requires c =
    let beats : IsHeartbeat (engine_in c.args.self.now) c.args.stream c.args.at = record { accepted = simp (to_z-of_z w64 c.args.at c.ranges.at) at c.in_ok-rows.ensures.accepted; queues = simp (to_z-of_z w64 c.args.at c.ranges.at) at c.in_ok-close.ensures.queues } in
    readers_asked c.args.self.now c.close.new.self c.args.stream c.args.at c.requires beats (simp (to_z-of_z w64 c.args.at c.ranges.at) at c.in_ok-close.ensures.ok) c.deref.result.now (c.deref.ensures.value ∙ c.in_ok-slots.ensures)

pub returns-clause-does : goal.returns-clause-does
returns-clause-does c =
    let beats : IsHeartbeat (engine_in c.args.self.now) c.args.stream c.args.at = record { accepted = simp (to_z-of_z w64 c.args.at c.ranges.at) at c.in_ok-rows.ensures.accepted; queues = simp (to_z-of_z w64 c.args.at c.ranges.at) at c.in_ok-close.ensures.queues } in
    beats_does c.args.self.now c.close.new.self c.args.stream c.args.at c.requires beats (simp (to_z-of_z w64 c.args.at c.ranges.at) at c.in_ok-close.ensures.ok) c.deref.result.now (c.deref.ensures.value ∙ c.in_ok-slots.ensures) c.change_slots.new.self c.change_slots.ensures

pub returns-clause-engine : goal.returns-clause-engine
returns-clause-engine c =
    let beats : IsHeartbeat (engine_in c.args.self.now) c.args.stream c.args.at = record { accepted = simp (to_z-of_z w64 c.args.at c.ranges.at) at c.in_ok-rows.ensures.accepted; queues = simp (to_z-of_z w64 c.args.at c.ranges.at) at c.in_ok-close.ensures.queues } in
    beats_engine c.args.self.now c.close.new.self c.args.stream c.args.at c.requires beats (simp (to_z-of_z w64 c.args.at c.ranges.at) at c.in_ok-close.ensures.ok) c.deref.result.now (c.deref.ensures.value ∙ c.in_ok-slots.ensures) c.change_slots.new.self c.change_slots.ensures

pub returns-clause-closes : goal.returns-clause-closes
returns-clause-closes c = simp (to_z-of_z w64 c.args.at c.ranges.at) at c.in_ok-close.ensures.queues

pub returns-clause-queues : goal.returns-clause-queues
returns-clause-queues c =
    let beats : IsHeartbeat (engine_in c.args.self.now) c.args.stream c.args.at = record { accepted = simp (to_z-of_z w64 c.args.at c.ranges.at) at c.in_ok-rows.ensures.accepted; queues = simp (to_z-of_z w64 c.args.at c.ranges.at) at c.in_ok-close.ensures.queues } in
    subst (LengthensQueues c.args.stream c.args.at (engine_in c.args.self.now))
    (sym (beats_engine c.args.self.now c.close.new.self c.args.stream c.args.at c.requires beats (simp (to_z-of_z w64 c.args.at c.ranges.at) at c.in_ok-close.ensures.ok) c.deref.result.now (c.deref.ensures.value ∙ c.in_ok-slots.ensures) c.change_slots.new.self c.change_slots.ensures))
    (heartbeat_lengthens (engine_in c.args.self.now) c.args.stream c.args.at c.requires.good beats)

pub returns-clause-sound : goal.returns-clause-sound
returns-clause-sound c =
    let beats : IsHeartbeat (engine_in c.args.self.now) c.args.stream c.args.at = record { accepted = simp (to_z-of_z w64 c.args.at c.ranges.at) at c.in_ok-rows.ensures.accepted; queues = simp (to_z-of_z w64 c.args.at c.ranges.at) at c.in_ok-close.ensures.queues } in
    beats_sound c.args.self.now c.close.new.self c.args.stream c.args.at c.requires beats (simp (to_z-of_z w64 c.args.at c.ranges.at) at c.in_ok-close.ensures.ok) c.deref.result.now (c.deref.ensures.value ∙ c.in_ok-slots.ensures) c.change_slots.new.self c.change_slots.ensures

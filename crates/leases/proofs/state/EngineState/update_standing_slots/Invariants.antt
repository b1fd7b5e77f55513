use Rattle.std.proofs.Common.{◌≡◌, drop}
use Rattle.std.specs.List.{AllByRecursion}
use Rattle.leases.specs.Applied.{AllStand}
use Rattle.leases.specs.Asked.{HasOperatorAt}
use Rattle.leases.specs.Readers.{with_updates, with_slots}
use Rattle.leases.specs.Shown.{engine_in}
use Rattle.leases.proofs.state.EngineState.update_standing_slots.Given as goal

-- only the slots are others; with those that are left told too, they are what they will be
abbrev pub invariant-loop-place : goal.invariant-loop-place
invariant-loop-place l = record {
  same : l.self ≡ with_slots l.fn.self l.self.slots;
  left : AllByRecursion (λ s. HasOperatorAt (engine_in l.fn.self) s.query s.operator) (drop l.place l.slots);
  stand : AllStand l.self.slots (drop l.place l.slots);
  tells : with_updates (engine_in l.fn.self) (drop l.place l.slots) l.self.slots ≡ with_updates (engine_in l.fn.self) l.slots l.fn.self.slots;
}

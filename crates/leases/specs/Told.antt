-- Slots that wait to be told what their operators may take next.
use Rattle.std.specs.Prelude.{ℕ, ⊤, ◌≡◌, ◌<◌, Bool, true, false, MatchOption, Option, List, ◌∷◌}
use Rattle.std.specs.Option.{option_map, option_to_list}
use Rattle.std.specs.Ordering.{is_gt}
use Rattle.column.specs.declared.batch.Side.{Side}
use Rattle.envelope.specs.Fraction.{fraction_cmp}
use Rattle.run_queue.specs.Changes.{goes_on, with_next}
use Rattle.run_queue.specs.declared.slots.Slot.{Slot}
use Rattle.laws_engine.specs.Engines.{PlainEngine}
use Rattle.leases.specs.Applied.{BothStand, MayTell}
use Rattle.leases.specs.Asked.{HasOperatorAt}
use Rattle.leases.specs.Readers.{next_for, with_slots, with_updates}
use Rattle.leases.specs.Shown.{engine_in}
use Rattle.leases.specs.declared.state.EngineState.{EngineState}

-- a slot with what its operator may take next
abbrev pub told_slot : PlainEngine → Slot → Slot
told_slot e s = with_next s (next_for e s.query s.operator)

abbrev pub told_above : PlainEngine → Option Slot → Option Slot
told_above e above = option_map (told_slot e) above

-- THE ENGINE AS IT IS TOLD: the slot of an operator that ran, as it stands,
-- gets what that may take next, and then the one above does, if there is one
abbrev pub told_slots : PlainEngine → Slot → Option Slot → List Slot
told_slots e s above = with_updates e (s ∷ option_to_list above) e.slots

abbrev pub told : PlainEngine → Slot → Option Slot → PlainEngine
told e s above = record e { slots = told_slots e s above }

abbrev pub told_state : EngineState → Slot → Option Slot → EngineState
told_state m s above = with_slots m (told_slots (engine_in m) s above)

-- both may be told, and stand as they did
pub record MayTellBoth (m : EngineState) (s : Slot) (above : Option Slot) : Type 0 where
  pub here : HasOperatorAt (engine_in m) s.query s.operator
  pub over : MayTell (engine_in m) above
  pub stand : BothStand m.slots s above

-- the operator above, if there is one, has no greater slope
abbrev pub IsNoSteeper : Option Slot → Slot → Type 0
IsNoSteeper above s = MatchOption above ⊤ (λ a. is_gt (fraction_cmp a.slope.0 s.slope.0) ≡ false)

-- one that has none goes on with what it may take next: there is
-- something of the same instant, and a number for a turn below the given one
pub record GoesOn (m : EngineState) (s : Slot) (next : Option (Side × ℕ)) (stays : Bool)
    (until : ℕ) : Type 0 where
  pub first : stays ≡ true
  pub numbers : m.next < until
  pub same : goes_on s next ≡ true

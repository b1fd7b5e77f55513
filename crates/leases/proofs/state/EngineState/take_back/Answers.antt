-- The steps, one after the other.
use Rattle.std.proofs.Common.{◌==◌, not, ap}
use Rattle.turn.specs.declared.parts.Parts.{Parts}
use Rattle.leases.specs.Applied.{IsOutAsIn, IsOutIn}
use Rattle.leases.specs.Shown.{engine_in}
use Rattle.leases.specs.Sound.{IsSound}
use Rattle.leases.specs.Turns.{lease_of_parts}
use Rattle.leases.specs.declared.state.EngineState.{EngineState}
use Rattle.leases.proofs.FinishBackLemmas.{AreSteps, broken_sound, gives_on, may_apply, may_look, may_tell, out_as_in, parts_come_back, sound_ended, taken_in, wired_operators}
use Rattle.leases.proofs.LeaveLemmas.{fewer}
use Rattle.leases.proofs.MarkLemmas.{markable}
use Rattle.leases.proofs.state.EngineState.take_back.Goals as goal

-- by its lease it is out
out : (s : EngineState) (d : Parts) → IsSound s → IsOutIn (engine_in s) d → IsOutAsIn (engine_in s) (lease_of_parts d)
out s d sound o = out_as_in (engine_in s) d sound.good o

pub slot-slot-requires : goal.slot-slot-requires
slot-slot-requires c = may_look (engine_in c.args.self.now) (lease_of_parts c.args.parts) c.parts.inside.0.1.0.query c.parts.inside.0.1.0.operator c.requires.sound.good (out c.args.self.now c.args.parts c.requires.sound c.requires.out) (ap (λ (d : Parts). d.node.query) c.parts.view_is) (ap (λ (d : Parts). d.node.operator) c.parts.view_is)

pub above-above-requires-clause-here : goal.above-above-requires-clause-here
above-above-requires-clause-here c = may_look (engine_in c.args.self.now) (lease_of_parts c.args.parts) c.parts.inside.0.1.0.query c.parts.inside.0.1.0.operator c.requires.sound.good (out c.args.self.now c.args.parts c.requires.sound c.requires.out) (ap (λ (d : Parts). d.node.query) c.parts.view_is) (ap (λ (d : Parts). d.node.operator) c.parts.view_is)

pub above-above-requires-clause-wired : goal.above-above-requires-clause-wired
above-above-requires-clause-wired c = wired_operators (engine_in c.args.self.now) (lease_of_parts c.args.parts) c.parts.inside.0.1.0.query c.requires.sound.good (out c.args.self.now c.args.parts c.requires.sound c.requires.out) (ap (λ (d : Parts). d.node.query) c.parts.view_is)

pub apply-requires-clause-may : goal.apply-requires-clause-may
apply-requires-clause-may c = may_apply (engine_in c.args.self.now) c.args.parts c.requires.sound.good c.requires.out c.requires.done

pub apply-requires-clause-markable : goal.apply-requires-clause-markable
apply-requires-clause-markable c = markable c.args.self.now c.requires.sound

pub returns-in_err-apply-clause-sound : goal.returns-in_err-apply-clause-sound
returns-in_err-apply-clause-sound c = broken_sound c.args.self.now c.apply.new.self (lease_of_parts c.args.parts) c.requires.sound (out c.args.self.now c.args.parts c.requires.sound c.requires.out) c.in_err-apply.ensures.err c.in_err-apply.ensures.forgets

-- what was looked up before the query took it
steps : (c : goal.After-end_turn-arg-1) → AreSteps (engine_in c.args.self.now) (lease_of_parts c.args.parts) c.parts.inside.0.1.0.query c.parts.inside.0.1.0.operator c.parts.inside.0.0 c.slot-slot.result c.above-above.result (engine_in c.apply.new.self)
steps c = record {
  query = ap (λ (d : Parts). d.node.query) c.parts.view_is;
  operator = ap (λ (d : Parts). d.node.operator) c.parts.view_is;
  number = ap (λ (d : Parts). d.lease) c.parts.view_is;
  slot = c.slot-slot.ensures;
  over = c.above-above.ensures;
  applied = taken_in (engine_in c.args.self.now) c.args.parts (engine_in c.apply.new.self) c.requires.sound.good c.requires.done c.requires.out c.in_ok-apply.ensures.ok;
}

pub end_turn-requires : goal.end_turn-requires
end_turn-requires c =
    may_tell (engine_in c.args.self.now) (lease_of_parts c.args.parts) c.parts.inside.0.1.0.query c.parts.inside.0.1.0.operator c.parts.inside.0.0 c.slot-slot.result c.above-above.result c.apply.new.self c.requires.sound.good (out c.args.self.now c.args.parts c.requires.sound c.requires.out) (steps c)

pub returns-clause-back : goal.returns-clause-back
returns-clause-back c =
    parts_come_back (engine_in c.args.self.now) c.args.parts c.parts.inside.0.1.0.query c.parts.inside.0.1.0.operator c.parts.inside.0.0 c.slot-slot.result c.above-above.result (engine_in c.apply.new.self) c.requires.sound.good c.requires.done c.requires.out (steps c.before)
    c.before.in_ok-apply.ensures.ok (engine_in c.end_turn.new.self) c.end_turn.ensures.ended

pub returns-clause-sound : goal.returns-clause-sound
returns-clause-sound c =
    let s = c.args.self.now in
    sound_ended s (engine_in s).leases s.slots (lease_of_parts c.args.parts) c.parts.inside.0.1.0.query c.parts.inside.0.1.0.operator c.parts.inside.0.0 c.slot-slot.result c.above-above.result (engine_in c.apply.new.self) c.requires.sound c.requires.sound.good
    (fewer (λ l. not (l.number == c.args.parts.lease)) (engine_in s).leases) (out s c.args.parts c.requires.sound c.requires.out) (steps c.before) c.end_turn.new.self c.end_turn.ensures.ended (gives_on s c.apply.new.self c.end_turn.new.self c.in_ok-apply.ensures.rest c.end_turn.ensures.rest)

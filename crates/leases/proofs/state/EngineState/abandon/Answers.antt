-- No turn of the number is out, or that is abandoned whose number it is.
use Rattle.std.proofs.Common.{refl}
use Rattle.leases.specs.Shown.{engine_in}
use Rattle.leases.proofs.OutLemmas.{none_numbered}
use Rattle.leases.proofs.LeaveLemmas.{abandons, known, may_end, stands, stays_sound, turn_asks}
use Rattle.leases.proofs.state.EngineState.abandon.Goals as goal

pub returns-in_default-clause-abandons : goal.returns-in_default-clause-abandons
returns-in_default-clause-abandons c = (none_numbered c.args.self.now.leases.items c.args.lease c.in_default.ensures, refl)

pub slot-slot-requires : goal.slot-slot-requires
slot-slot-requires c =
    turn_asks (engine_in c.args.self.now) c.requires.good c.args.lease _ (known c.args.self.now c.args.lease _ c.in-Some.turn.now c.turn.view_is c.in-Some.ensures)

pub end_turn-requires : goal.end_turn-requires
end_turn-requires c = record {
  here = may_end (engine_in c.args.self.now) c.requires.good c.args.lease _ (known c.args.self.now c.args.lease _ c.in-Some.turn.now c.turn.view_is c.in-Some.ensures) c.slot-slot.result c.slot-slot.ensures;
  over = tt;
  stand = (stands (engine_in c.args.self.now) c.requires.good c.args.lease _ (known c.args.self.now c.args.lease _ c.in-Some.turn.now c.turn.view_is c.in-Some.ensures) c.slot-slot.result c.slot-slot.ensures, tt);
}

pub returns-clause-abandons : goal.returns-clause-abandons
returns-clause-abandons c =
    abandons (engine_in c.args.self.now) c.requires.good c.args.lease _ (known c.args.self.now c.args.lease _ c.in-Some.turn.now c.turn.view_is c.in-Some.ensures) c.slot-slot.result c.slot-slot.ensures
    (engine_in c.end_turn.new.self) c.end_turn.ensures.ended

pub returns-clause-sound : goal.returns-clause-sound
returns-clause-sound c =
    stays_sound c.args.self.now c.end_turn.new.self c.requires c.args.lease _ (known c.args.self.now c.args.lease _ c.in-Some.turn.now c.turn.view_is c.in-Some.ensures) c.slot-slot.result c.slot-slot.ensures c.end_turn.ensures.ended
    c.end_turn.ensures.rest

-- Each turn runs over an engine whose slots wait; with them told it is a turn of the first slot.
use Rattle.std.proofs.Common.{◌≡◌, ◌+◌, arith}
use Rattle.leases.specs.Shown.{engine_in}
use Rattle.leases.proofs.InPlaceLemmas.{given}
use Rattle.leases.proofs.TurnsLemmas.{all_then, at_numbers, before_next, before_sound, begins, below_before, below_within, goes_again, may_run, may_tell_before, may_tell_less, may_tell_then, next_looked, ran_then, sound_then, wanted_before, wanted_within, within_next, within_sound}
use Rattle.leases.proofs.state.EngineState.run_while_first.Goals as goal

pub turns-init : goal.turns-init
turns-init c = record {
  running = begins (record {
    sound = c.requires.sound;
    first = c.requires.first;
    over = c.requires.over;
    some = c.requires.some;
    allowed = c.requires.allowed;
    numbers = omega (arith, c.requires.numbers, c.requires.few);
  });
  left = c.requires.numbers;
}

pub run_query-requires : goal.run_query-requires
run_query-requires c = may_run c.turns.invariant.running

-- IT HAD TAKEN NOTHING
pub tell_slots-requires : goal.tell_slots-requires
tell_slots-requires c = may_tell_before c.turns.invariant.running c.run_query.ensures.rest c.in-Err-Before.field-0-is c.in-Err-Before.ensures.err

pub returns-in-Err-Before-clause-err : goal.returns-in-Err-Before-clause-err
returns-in-Err-Before-clause-err c = wanted_before c.turns.invariant.running c.run_query.ensures.rest c.in-Err-Before.field-0-is c.in-Err-Before.ensures.err c.tell_slots.ensures

pub returns-in-Err-Before-clause-below : goal.returns-in-Err-Before-clause-below
returns-in-Err-Before-clause-below c = below_before c.turns.invariant.running c.run_query.ensures.rest c.in-Err-Before.field-0-is c.in-Err-Before.ensures.err c.turns.invariant.left c.tell_slots.ensures

pub returns-in-Err-Before-clause-sound : goal.returns-in-Err-Before-clause-sound
returns-in-Err-Before-clause-sound c = before_sound c.turns.invariant.running c.run_query.ensures.rest c.in-Err-Before.field-0-is c.in-Err-Before.ensures.err c.tell_slots.ensures

pub returns-in-Err-Before-clause-most : goal.returns-in-Err-Before-clause-most
returns-in-Err-Before-clause-most c =
    let same : c.tell_slots.new.self.next ≡ c.turns.self.next = before_next c.turns.invariant.running c.run_query.ensures.rest c.in-Err-Before.field-0-is c.in-Err-Before.ensures.err c.tell_slots.ensures in
    omega (arith, same, c.turns.invariant.left)

-- IT TOOK FEWER ROWS
pub tell_slots-requires-in-Err-Within : goal.tell_slots-requires-in-Err-Within
tell_slots-requires-in-Err-Within c = may_tell_less c.turns.invariant.running c.run_query.ensures.rest c.in-Err-Within.field-0-is c.in-Err-Within.ensures.err

pub returns-in-Err-Within-clause-err : goal.returns-in-Err-Within-clause-err
returns-in-Err-Within-clause-err c = wanted_within c.turns.invariant.running c.run_query.ensures.rest c.in-Err-Within.field-0-is c.in-Err-Within.ensures.err c.tell_slots-in-Err-Within.ensures

pub returns-in-Err-Within-clause-below : goal.returns-in-Err-Within-clause-below
returns-in-Err-Within-clause-below c = below_within c.turns.invariant.running c.run_query.ensures.rest c.in-Err-Within.field-0-is c.in-Err-Within.ensures.err c.turns.invariant.left c.tell_slots-in-Err-Within.ensures

pub returns-in-Err-Within-clause-sound : goal.returns-in-Err-Within-clause-sound
returns-in-Err-Within-clause-sound c = within_sound c.turns.invariant.running c.run_query.ensures.rest c.in-Err-Within.field-0-is c.in-Err-Within.ensures.err c.tell_slots-in-Err-Within.ensures

pub returns-in-Err-Within-clause-most : goal.returns-in-Err-Within-clause-most
returns-in-Err-Within-clause-most c =
    let one : c.tell_slots-in-Err-Within.new.self.next ≡ c.turns.self.next + 1 = within_next c.turns.invariant.running c.run_query.ensures.rest c.in-Err-Within.field-0-is c.in-Err-Within.ensures.err c.tell_slots-in-Err-Within.ensures in
    omega (arith, one, c.turns.invariant.left)

-- IT HAS RUN
pub next_for-next-requires : goal.next_for-next-requires
next_for-next-requires c =
    at_numbers (engine_in (given c.run_query.new.self c.turns.self.next)) c.args.slot.now c.query-query.result c.operator-operator.result c.query-query.ensures c.operator-operator.ensures
    (may_tell_then c.turns.invariant.running c.run_query.ensures.rest c.turns.invariant.running.allowed c.in-Ok.ensures.ok).here

pub returns-then-not-goes_on-clause-next : goal.returns-then-not-goes_on-clause-next
returns-then-not-goes_on-clause-next c =
    next_looked (engine_in (given c.run_query.new.self c.turns.self.next)) c.args.slot.now c.query-query.result c.operator-operator.result c.next_for-next.result c.query-query.ensures c.operator-operator.ensures
    (may_tell_then c.turns.invariant.running c.run_query.ensures.rest c.turns.invariant.running.allowed c.in-Ok.ensures.ok).here c.next_for-next.ensures

pub returns-then-not-goes_on-clause-ok : goal.returns-then-not-goes_on-clause-ok
returns-then-not-goes_on-clause-ok c = ran_then c.turns.invariant.running c.run_query.ensures.rest c.in-Ok.ensures.ok

pub returns-then-not-goes_on-clause-told_sound : goal.returns-then-not-goes_on-clause-told_sound
returns-then-not-goes_on-clause-told_sound c = sound_then c.turns.invariant.running c.run_query.ensures.rest c.turns.invariant.running.allowed c.in-Ok.ensures.ok

pub returns-then-not-goes_on-clause-may_tell : goal.returns-then-not-goes_on-clause-may_tell
returns-then-not-goes_on-clause-may_tell c = may_tell_then c.turns.invariant.running c.run_query.ensures.rest c.turns.invariant.running.allowed c.in-Ok.ensures.ok

-- AND GOES ON
pub turns-preserved : goal.turns-preserved
turns-preserved c =
    let goes = c.goes_on.ensures.0 c.if-not-goes_on.false in
    record {
      running = goes_again c.turns.invariant.running c.run_query.ensures.rest c.turns.invariant.running.allowed c.in-Ok.ensures.ok (all_then c.turns.invariant.running c.run_query.ensures.rest c.in-Ok.ensures.ok) c.next_for-next.result c.goes_before-stays.result c.args.until c.with_next-turn.result
          (next_looked (engine_in (given c.run_query.new.self c.turns.self.next)) c.args.slot.now c.query-query.result c.operator-operator.result c.next_for-next.result c.query-query.ensures c.operator-operator.ensures
          (may_tell_then c.turns.invariant.running c.run_query.ensures.rest c.turns.invariant.running.allowed c.in-Ok.ensures.ok).here c.next_for-next.ensures)
          goes c.requires.few c.goes_before-stays.ensures.0 c.with_next-turn.ensures;
      left = goes.numbers;
    }

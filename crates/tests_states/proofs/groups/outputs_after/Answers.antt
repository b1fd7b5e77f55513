use Rattle.std.proofs.Common.{◌≡◌, ◌+◌, ◌*◌, ℕ, subst, sym, arith}
use Rattle.group.specs.Turns.{CountsUpTo}
use Rattle.group.proofs.RoomLemmas.{room_for, room_begins}
use Rattle.tests_states.proofs.groups.outputs_after.Goals as goal

pub loop-number-init : goal.loop-number-init
loop-number-init c = subst (CountsUpTo (0 * 1024)) (sym c.in_ok-group.ensures) (room_begins 0 c.args.kept)

pub turn-requires : goal.turn-requires
turn-requires c = room_for (c.loop-number.number * 1024) c.loop-number.group c.if-number-times.next.now (omega (arith, c.loop-number-test.true, c.requires)) c.loop-number.invariant

pub loop-number-preserved : goal.loop-number-preserved
loop-number-preserved c =
    let i = c.loop-number.number in
    let more : i * 1024 + 1024 ≡ (i + 1) * 1024 = omega arith in
    subst (λ (n : ℕ). CountsUpTo n c.turn.new.group) more (c.in_ok-outputs.ensures (i * 1024) c.loop-number.invariant)

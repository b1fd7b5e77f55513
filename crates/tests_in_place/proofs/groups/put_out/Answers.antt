use Rattle.std.proofs.Common.{◌≡◌, ◌+◌, ◌*◌, ℕ, subst, arith}
use Rattle.group.specs.Turns.{CountsUpTo}
use Rattle.group.proofs.RoomLemmas.{room_for}
use Rattle.tests_in_place.proofs.groups.put_out.Goals as goal

pub loop-step-init : goal.loop-step-init
loop-step-init c = record { turns = c.requires.turns; places = c.requires.places }

pub turned-requires : goal.turned-requires
turned-requires c = room_for (c.loop-step.step * 1024) c.loop-step.by_turns c.in_ok-item.item (omega (arith, c.loop-step-test.true, c.requires.few)) c.loop-step.invariant.turns

pub placed-requires : goal.placed-requires
placed-requires c = room_for (c.loop-step.step * 1024) c.loop-step.in_place c.in_ok-item.item (omega (arith, c.loop-step-test.true, c.requires.few)) c.loop-step.invariant.places

pub loop-step-preserved : goal.loop-step-preserved
loop-step-preserved c =
    let i = c.loop-step.step in
    let more : i * 1024 + 1024 ≡ (i + 1) * 1024 = omega arith in
    record {
      turns = subst (λ (n : ℕ). CountsUpTo n c.turned.new.group) more (c.in_ok-outputs.ensures (i * 1024) c.loop-step.invariant.turns);
      places = subst (λ (n : ℕ). CountsUpTo n c.placed.new.group) more (c.in_ok-outputs-2.ensures (i * 1024) c.loop-step.invariant.places);
    }

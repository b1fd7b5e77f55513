use Rattle.std.proofs.Common.{◌+◌, ◌/◌, length, sym, subst, arith}
use Rattle.run_queue.specs.Places.{IsBetween, IsFound, IsMissing, IsPlayed, IsPlayedBeside}
use Rattle.run_queue.proofs.KeptLemmas.{again_at, change_kept, changed_elsewhere, changed_here, changed_nowhere}
use Rattle.run_queue.proofs.queue.change_slot.Goals as goal
use Rattle.run_queue.proofs.queue.change_slot.Goals.{In-Ok, Then-is_between}

found : (c : In-Ok) → IsFound c.args.slots.now.items c.args.slot.now c.in-Ok.at
found c = subst (λ l. IsFound l c.args.slot.now c.in-Ok.at) c.deref.ensures.value c.in-Ok.ensures.found

between : (c : Then-is_between) → IsBetween c.args.slots.now.items c.with_next-changed.result c.in-Ok.at
between c = subst (λ l. IsBetween l c.with_next-changed.result c.in-Ok.at) c.deref-in-Ok.ensures.value (c.is_between.ensures c.if-is_between.true)

-- src/queue.rt
pub play_again-requires-clause-played : goal.play_again-requires-clause-played
play_again-requires-clause-played c =
    let winners = c.args.winners.now in
    subst (λ l. IsPlayedBeside l winners ((length winners + c.in-Ok.at) / 2)) (sym c.deref-then-is_between.ensures.value)
    (again_at c.args.slots.now.items winners c.with_next-changed.result c.in-Ok.at c.requires.played)

pub returns-then-is_between-clause-kept : goal.returns-then-is_between-clause-kept
returns-then-is_between-clause-kept c =
    let winners = c.play_again.new.winners in
    change_kept c.args.slots.now.items c.args.winners.now c.with_next-changed.result c.in-Ok.at winners c.requires
    (found (goal.at.returns-then-is_between-clause-kept c).In-Ok).within (between (goal.at.returns-then-is_between-clause-kept c).Then-is_between) (omega arith)
    (subst (λ l. IsPlayed l winners) c.deref-then-is_between.ensures.value c.play_again.ensures)

pub returns-then-is_between-clause-order : goal.returns-then-is_between-clause-order
returns-then-is_between-clause-order c =
    changed_here c.args.slots.now.items c.args.slot.now c.with_next-changed.result c.args.next c.in-Ok.at c.requires.ordered
    (found (goal.at.returns-then-is_between-clause-order c).In-Ok) (between (goal.at.returns-then-is_between-clause-order c).Then-is_between) c.with_next-changed.ensures

pub returns-else-is_between-clause-order : goal.returns-else-is_between-clause-order
returns-else-is_between-clause-order c =
    changed_elsewhere c.args.slots.now.items c.replace.new.slots.items c.args.slot.now c.with_next-changed.result c.args.next c.in-Ok.at c.requires.ordered
    (found (goal.at.returns-else-is_between-clause-order c).In-Ok) c.with_next-changed.ensures c.replace.ensures.order

pub returns-in_default-clause-order : goal.returns-in_default-clause-order
returns-in_default-clause-order c =
    changed_nowhere c.args.slots.now.items c.args.slot.now c.args.next c.in_default.field-0
    (subst (λ l. IsMissing l c.args.slot.now c.in_default.field-0) c.deref.ensures.value c.in_default.ensures.missing)

use Rattle.std.proofs.Common.{◌≡◌, ◌+◌, ◌/◌, ◌∙◌, length, ap, sym, subst, arith}
use Rattle.std.specs.List.{insert}
use Rattle.run_queue.specs.Places.{in_order, IsFound, IsMissing, IsPlayed, IsPlayedBeside}
use Rattle.run_queue.proofs.KeptLemmas.{again_behind, put_found, put_kept, put_missing}
use Rattle.run_queue.proofs.queue.put_slot.Goals as goal
use Rattle.run_queue.proofs.queue.put_slot.Goals.{In-Err}

missing : (c : In-Err) → IsMissing c.args.slots.now.items c.args.slot.now c.in-Err.at
missing c = subst (λ l. IsMissing l c.args.slot.now c.in-Err.at) c.deref.ensures.value c.in-Err.ensures.missing

-- src/queue.rt
pub play_again-requires-clause-played : goal.play_again-requires-clause-played
play_again-requires-clause-played c =
    let slots = c.args.slots.now.items in
    let winners = c.args.winners.now in
    let e : c.deref-then-is_last.result.now ≡ insert slots c.in-Err.at c.args.slot.now = c.deref-then-is_last.ensures.value ∙ c.insert.ensures in
    subst (λ l. IsPlayedBeside l winners ((length winners + c.in-Err.at) / 2)) (sym e)
    (again_behind slots winners c.args.slot.now c.in-Err.at (omega arith) c.requires.kept.played)

pub returns-then-is_last-clause-kept : goal.returns-then-is_last-clause-kept
returns-then-is_last-clause-kept c =
    let winners = c.play_again.new.winners in
    put_kept c.args.slots.now.items c.args.winners.now c.args.slot.now c.in-Err.at c.insert.new.slots.items winners c.requires.kept (omega arith)
    (missing (goal.at.returns-then-is_last-clause-kept c).In-Err) c.insert.ensures (omega arith)
    (subst (λ l. IsPlayed l winners) c.deref-then-is_last.ensures.value c.play_again.ensures)

pub returns-then-is_last-clause-order : goal.returns-then-is_last-clause-order
returns-then-is_last-clause-order c =
    ap in_order c.insert.ensures ∙ put_missing c.args.slots.now.items c.args.slot.now c.in-Err.at (missing (goal.at.returns-then-is_last-clause-order c).In-Err)

pub returns-else-is_last-clause-kept : goal.returns-else-is_last-clause-kept
returns-else-is_last-clause-kept c =
    let winners = c.play_all.new.winners in
    put_kept c.args.slots.now.items c.args.winners.now c.args.slot.now c.in-Err.at c.insert.new.slots.items winners c.requires.kept (omega arith)
    (missing (goal.at.returns-else-is_last-clause-kept c).In-Err) c.insert.ensures (omega arith)
    (subst (λ l. IsPlayed l winners) c.deref-else-is_last.ensures.value c.play_all.ensures)

pub returns-else-is_last-clause-order : goal.returns-else-is_last-clause-order
returns-else-is_last-clause-order c =
    ap in_order c.insert.ensures ∙ put_missing c.args.slots.now.items c.args.slot.now c.in-Err.at (missing (goal.at.returns-else-is_last-clause-order c).In-Err)

pub returns-in_default-clause-order : goal.returns-in_default-clause-order
returns-in_default-clause-order c =
    put_found c.args.slots.now.items c.args.slot.now c.in_default.field-0
    (subst (λ l. IsFound l c.args.slot.now c.in_default.field-0) c.deref.ensures.value c.in_default.ensures.found)

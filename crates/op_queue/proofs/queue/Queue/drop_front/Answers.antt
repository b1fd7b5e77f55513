use Rattle.std.proofs.Common.{arith, ◌<◌, length}
use Rattle.std.proofs.lemmas.Grind.{common_steps}
use Rattle.op_queue.proofs.CountLemmas.{pieces_dropped}
use Rattle.op_queue.proofs.DropLemmas.{IsDropping-pop, IsDropping-end, dropped_all}
use Rattle.op_queue.proofs.queue.Queue.drop_front.Goals as goal
use Rattle.op_queue.proofs.queue.Queue.drop_front.Goals.{else-loop-left-test, then-loop-left-test+in-None-1}

pub loop-left-preserved : goal.loop-left-preserved
loop-left-preserved c =
    let ps = c.loop-left.self-inside.pieces.items in
    let some : 0 < length ps = search arith in
    IsDropping-pop ps c.pop_front.new.self.items c.in-Some.piece.now c.size.result some c.in-Some.ensures.lookup c.size.ensures.value c.pop_front.ensures.rest c.loop-left.invariant c.if-left-here.false

pub invariant_of-self : goal.invariant_of-self
invariant_of-self c =
    let end = IsDropping-end c.self.inside.pieces.items c.loop-left.self-inside.pieces.items c.self.invariant c.loop-left.invariant in
    elim c.loop-left-test.branch [
      | else-loop-left-test w ↦ end (omega arith)
      | then-loop-left-test+in-None-1 w ↦ end (dropped_all c.loop-left.self-inside.pieces.items c.loop-left.invariant (grind (arith, common_steps)))
    ]

pub returns-clause-counted : goal.returns-clause-counted
returns-clause-counted c =
    let end = pieces_dropped c.self.inside.pieces.items c.loop-left.self-inside.pieces.items _ c.self.view_is c.self.invariant c.loop-left.invariant in
    elim c.loop-left-test.branch [
      | else-loop-left-test w ↦ end (omega arith)
      | then-loop-left-test+in-None-1 w ↦ end (dropped_all c.loop-left.self-inside.pieces.items c.loop-left.invariant (grind (arith, common_steps)))
    ]

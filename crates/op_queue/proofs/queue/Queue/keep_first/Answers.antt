use Rattle.std.proofs.Common.{arith}
use Rattle.op_queue.proofs.KeepLemmas.{IsKeeping-start, IsKeeping-pop, IsKeeping-end, pop-few}
use Rattle.op_queue.proofs.queue.Queue.keep_first.Goals as goal

pub loop-self-init : goal.loop-self-init
loop-self-init c = (
  omega (arith, c.if-count-eq0.false),
  IsKeeping-start c.self.inside.pieces.items c.args.count c.args.self.now c.self.view_is c.self.invariant c.requires.within c.requires.cut,
)

pub overflow_sub-self : goal.overflow_sub-self
overflow_sub-self c =
    pop-few c.pop_back.new.self.items c.loop-self.self-inside.pieces.items c.in-Some.piece c.size.result (c.in-Some.ensures.items) c.size.ensures.value c.loop-self.invariant.0 c.loop-self-test.true c.loop-self.invariant.1

pub loop-self-preserved-in-Some : goal.loop-self-preserved-in-Some
loop-self-preserved-in-Some c = (
  c.loop-self.invariant.0,
  IsKeeping-pop c.pop_back.new.self.items c.loop-self.self-inside.pieces.items c.in-Some.piece c.size.result c.in-Some.ensures.items c.size.ensures.value c.loop-self.invariant.0 c.loop-self-test.true c.loop-self.invariant.1,
)

pub loop-self-preserved : goal.loop-self-preserved
loop-self-preserved c = (
  c.loop-self.invariant.0,
  IsKeeping-pop c.pop_back.new.self.items c.loop-self.self-inside.pieces.items c.in-Some.piece c.size.result c.in-Some.ensures.items c.size.ensures.value c.loop-self.invariant.0 c.loop-self-test.true c.loop-self.invariant.1,
)

pub returns-after-loop-self : goal.returns-after-loop-self
returns-after-loop-self c =
    IsKeeping-end c.loop-self.self-inside.pieces.items c.loop-self.invariant.1 (omega (arith, c.loop-self-test.false))

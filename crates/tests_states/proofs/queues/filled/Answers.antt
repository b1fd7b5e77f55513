use Rattle.std.proofs.Common.{arith, refl}
use Rattle.op_queue.specs.declared.item.Item.TheVariants.{Rows, Tick}
use Rattle.op_queue.proofs.ForwardLemmas.{IsUpTo-none, IsUpTo-push, IsUpTo-push_ticks}
use Rattle.tests_states.proofs.queues.filled.Goals as goal

pub push-requires : goal.push-requires
push-requires c =
    let one = IsUpTo-push_ticks c.new-queue.result.entries c.push_ticks.new.self.entries 0 1 c.in_ok-push_ticks.ensures.entries (IsUpTo-none c.new-queue.result.entries c.new-queue.ensures.entries) (omega arith) (omega arith) in
    (IsUpTo-push c.push_ticks.new.self.entries _ (Rows 2 c.in_ok-batch.batch) refl one (omega arith)).forward

pub push-requires-2 : goal.push-requires-2
push-requires-2 c =
    let one = IsUpTo-push_ticks c.new-queue.result.entries c.push_ticks.new.self.entries 0 1 c.in_ok-push_ticks.ensures.entries (IsUpTo-none c.new-queue.result.entries c.new-queue.ensures.entries) (omega arith) (omega arith) in
    let two = IsUpTo-push c.push_ticks.new.self.entries c.push.new.self.entries (Rows 2 c.in_ok-batch.batch) c.in_ok-push.ensures.entries one (omega arith) in
    (IsUpTo-push c.push.new.self.entries _ (Tick 2) refl two (omega arith)).forward

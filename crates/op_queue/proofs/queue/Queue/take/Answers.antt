use Rattle.std.proofs.Common.{◌≡◌, ◌<◌, IfOk, OnErr, length, subst, sym}
use Rattle.op_queue.specs.Queues.{HasLeft, Waiting}
use Rattle.op_queue.proofs.queue.Queue.take.Goals as goal

pub take_cut-requires-clause-waits : goal.take_cut-requires-clause-waits
take_cut-requires-clause-waits c = let P : Waiting → Type 0 = λ w. 0 < length w.entries in subst P (sym c.in-None.ensures) c.requires.waits

pub returns-in-None-clause-left : goal.returns-in-None-clause-left
returns-in-None-clause-left c = let P : Waiting → Type 0 = λ w. IfOk c.take_cut.result (HasLeft c.args.count w c.take_cut.new.self) in subst P c.in-None.ensures c.take_cut.ensures.left

pub returns-in-None-clause-err : goal.returns-in-None-clause-err
returns-in-None-clause-err c = let P : Waiting → Type 0 = λ w. OnErr c.take_cut.result (c.take_cut.new.self ≡ w) in subst P c.in-None.ensures c.take_cut.ensures.err

use Rattle.std.proofs.Common.{◌∙◌, ap, arith, drop}
use Rattle.op_queue.specs.Logs.{cursor_entries}
use Rattle.op_queue.proofs.TakeLemmas.{front_part-few}
use Rattle.op_queue.proofs.cursor.Cursor.take.Goals as goal

pub drop_front-requires-clause-waits : goal.drop_front-requires-clause-waits
drop_front-requires-clause-waits c = omega (arith, c.len.ensures, front_part-few c.args.count (cursor_entries c.args.self.now c.args.log.now) c.in_ok-item.item c.in_ok-item.ensures.part)

pub returns-clause-rest : goal.returns-clause-rest
returns-clause-rest c = c.drop_front.ensures.entries ∙ ap (λ n. drop n (cursor_entries c.args.self.now c.args.log.now)) c.len.ensures

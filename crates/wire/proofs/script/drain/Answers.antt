use Rattle.wire.proofs.Turns.{drain_done, drain_refused}
use Rattle.wire.proofs.script.drain.Goals as goal

pub returns-in-Ok-clause-answers : goal.returns-in-Ok-clause-answers
returns-in-Ok-clause-answers g c whole =
    drain_done (g.E.Answering.world c.args.engine.now) (g.E.Answering.world c.drain.new.self) (g.E.Answering.world c.tidy.new.self) c.args.rows c.in-Ok.field-0
    c.requires.rows (c.in-Ok.ensures.does whole) (c.tidy.ensures.alike (c.in-Ok.ensures.whole whole tt))

pub returns-in-Err-clause-answers : goal.returns-in-Err-clause-answers
returns-in-Err-clause-answers g c whole =
    drain_refused (g.E.Answering.world c.args.engine.now) (g.E.Answering.world c.drain.new.self) c.args.rows c.in-Err.fault c.requires.rows (c.in-Err.ensures.does whole)

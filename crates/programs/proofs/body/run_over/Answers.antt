use Rattle.programs.proofs.Outcomes.{says_begins, runs_stands}
use Rattle.programs.proofs.body.run_over.Goals as goal

pub returns-in-Ok-clause-answers : goal.returns-in-Ok-clause-answers
returns-in-Ok-clause-answers g c =
    (λ is. c.in-Ok.ensures.text, says_begins _ (g.N.Answering.world c.args.engine.now) (g.I.Source.left c.args.source.now) (g.O.Sink.taken c.args.sink.now) (g.O.Sink.taken c.run_script.new.sink) c.in-Ok.ensures.text)

pub returns-in-Ok-clause-leads : goal.returns-in-Ok-clause-leads
returns-in-Ok-clause-leads g c =
    (λ is. c.in-Ok.ensures.ran, runs_stands _ (g.N.Answering.world c.args.engine.now) (g.N.Answering.world c.run_script.new.engine) (g.I.Source.left c.args.source.now) (g.O.Sink.taken c.args.sink.now) (g.O.Sink.taken c.run_script.new.sink) c.in-Ok.ensures.ran)

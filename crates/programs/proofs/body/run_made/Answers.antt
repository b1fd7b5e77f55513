use Rattle.std.proofs.Common.{subst}
use Rattle.reference.specs.World.{World, empty}
use Rattle.programs.specs.Run.{Answers}
use Rattle.programs.specs.Ends.{MayRunOut}
use Rattle.programs.proofs.Outcomes.{answers_wider}
use Rattle.programs.proofs.body.run_made.Goals as goal

pub returns-clause-answers : goal.returns-clause-answers
returns-clause-answers g c =
    let so = subst (λ (w : World). Answers (¬ g.N.Answering.has_numbers c.run_over.new.engine) w c.run_over.result (g.I.Source.left c.args.source.now) (g.O.Sink.taken c.args.sink.now) (g.O.Sink.taken c.run_over.new.sink)) c.requires.empty c.run_over.ensures.answers in
    answers_wider _ (MayRunOut g.N.Answering.has_numbers) (λ out. (c.run_over.new.engine, out)) empty c.run_over.result (g.I.Source.left c.args.source.now) (g.O.Sink.taken c.args.sink.now) (g.O.Sink.taken c.run_over.new.sink) so

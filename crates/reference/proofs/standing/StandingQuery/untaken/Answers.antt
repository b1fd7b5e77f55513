use Rattle.std.proofs.Common.{◌∙◌, ap, drop}
use Rattle.reference.proofs.standing.StandingQuery.untaken.Goals as goal

pub returns-clause-answers : goal.returns-clause-answers
returns-clause-answers c = rw c.if-self.false (c.without_front.ensures.items ∙ ap (drop c.args.self.now.taken) c.in_ok-answers.ensures.answers)

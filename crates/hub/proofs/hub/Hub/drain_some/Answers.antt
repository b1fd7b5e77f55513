use Rattle.hub.proofs.hub.Hub.drain_some.Goals as goal

pub returns-clause-idle : goal.returns-clause-idle
returns-clause-idle g c is = (c.drain_some-answer.new.self, c.drain_some-answer.ensures.drains.rest is)

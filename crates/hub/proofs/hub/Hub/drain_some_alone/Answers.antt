use Rattle.hub.proofs.hub.Hub.drain_some_alone.Goals as goal

pub returns-clause-idle : goal.returns-clause-idle
returns-clause-idle g c is = (c.drain_some-ran.new.self, c.drain_some-ran.ensures.drains.rest is)

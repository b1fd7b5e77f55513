use Rattle.hub.proofs.hub.Hub.drain_some_by_query.Goals as goal

pub returns-clause-idle : goal.returns-clause-idle
returns-clause-idle g c is = (c.drain_some_by_query-drained.new.self, c.drain_some_by_query-drained.ensures.drains.rest is)

use Rattle.std.proofs.Common.{ap}
use Rattle.laws_engine.specs.Engines.{world_of}
use Rattle.laws_engine.proofs.PromiseLemmas.{keeps_its_promises}
use Rattle.leases.proofs.ViewLemmas.{whole_at_first}
use Rattle.leases.proofs.engine.Engine.new.Goals as goal

pub returns-clause-world : goal.returns-clause-world
returns-clause-world c = ap world_of c.new.ensures.empty

pub returns-clause-whole : goal.returns-clause-whole
returns-clause-whole c = whole_at_first c.new.result c.new.ensures.empty

pub returns-clause-promises : goal.returns-clause-promises
returns-clause-promises c = keeps_its_promises _ c.new.ensures.sound.good

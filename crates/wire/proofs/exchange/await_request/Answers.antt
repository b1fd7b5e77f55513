use Rattle.wire.specs.Held.{work}
use Rattle.wire.proofs.Reading.{fewer_behind}
use Rattle.wire.proofs.exchange.await_request.Goals as goal

pub returns-in-Some-clause-fewer : goal.returns-in-Some-clause-fewer
returns-in-Some-clause-fewer g c = c.in-Some.ensures.fewer (g.S.Source.turns c.args.source.now)

pub returns-clause-fewer : goal.returns-clause-fewer
returns-clause-fewer g c =
    fewer_behind c.next_request.result _ (work c.held_request.new.lines (g.S.Source.turns c.args.source.now)) _ (c.held_request.ensures.no_more (g.S.Source.turns c.args.source.now)) c.next_request.ensures.fewer

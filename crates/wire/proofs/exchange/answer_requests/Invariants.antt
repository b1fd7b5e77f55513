use Rattle.std.proofs.Common.{◌≡◌, ℕ, List, true}
use Rattle.wire.specs.Answering.{Leads}
use Rattle.wire.specs.Held.{ahead, work}
use Rattle.wire.specs.Paged.{Wrote}
use Rattle.wire.proofs.Exchanges.{Progress}
use Rattle.wire.proofs.exchange.answer_requests.Given as goal

abbrev pub invariant-requests : goal.invariant-requests
invariant-requests g l =
    (written : List ℕ)
    × Wrote (g.K.Sink.taken l.fn.sink) (g.K.Sink.failures l.fn.sink) (g.K.Sink.taken l.sink) (g.K.Sink.failures l.sink) l.page written
    × Progress (g.A.Responder.replies l.responder) (g.A.Responder.notes l.responder) l.fn.state (g.S.Source.left l.fn.source) l.noted l.state
    (ahead l.lines (g.S.Source.left l.source)) written
    × Leads (g.A.Responder.replies l.responder) (g.A.Responder.notes l.responder) l.fn.state l.state
    × (g.S.Source.failures l.source ≡ g.S.Source.failures l.fn.source)
    × (l.page.is_sound ≡ true)

abbrev pub decreases-requests : goal.decreases-requests
decreases-requests g l = work l.lines (g.S.Source.turns l.source)

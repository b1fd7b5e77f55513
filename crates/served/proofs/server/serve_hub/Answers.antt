use Rattle.std.proofs.Common.{inr, subst}
use Rattle.served.specs.Errors.{IsTold, close_line}
use Rattle.served.specs.Failures.{IsToldFirst}
use Rattle.served.proofs.server.serve_hub.Goals as goal

-- nothing failed before the hub was closed, so nothing was said before
pub returns-clause-failed : goal.returns-clause-failed
returns-clause-failed g c is =
    inr (inr (subst (λ e. IsTold g.E.Sink.taken g.E.Sink.failures e c.tell_close.new.errors close_line)
    (subst (λ o. IsToldFirst g.E.Sink.taken g.E.Sink.failures c.args.errors.now c.run_telling-first.new.errors o) c.in-None.is c.run_telling-first.ensures)
    (c.tell_close.ensures.failed is)))

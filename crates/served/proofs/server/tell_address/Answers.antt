use Rattle.std.proofs.Common.{◌≡◌, ◌≤◌, ◌∙◌, arith, inr, subst}
use Rattle.served.specs.Errors.{IsTold, listening_line}
use Rattle.served.proofs.server.tell_address.Goals as goal

pub returns-clause-told : goal.returns-clause-told
returns-clause-told g c =
    let fits : c.port-port.result ≤ 65535 = omega arith in
    let line : c.as_str.result.now ≡ listening_line c.port-port.result = c.as_str.ensures.value ∙ c.in_ok-line.ensures.ok in
    inr (c.port-port.result, fits, subst (IsTold g.O.Sink.taken g.O.Sink.failures c.args.sink.now c.tell.new.errors) line c.tell.ensures)

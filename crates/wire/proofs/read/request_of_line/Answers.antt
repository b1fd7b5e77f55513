use Rattle.std.proofs.Common.{sym, ◌∙◌}
use Rattle.wire.specs.Requests.{asked_in}
use Rattle.wire.proofs.Reading.{request_kept}
use Rattle.wire.proofs.read.request_of_line.Goals as goal

pub returns : goal.returns
returns c = λ whole k.
    (asked_in c.args.line.now, request_kept c.args.line.now whole c.args.fits c.if-not-fits.false k (sym c.is_blank.ensures ∙ c.if-is_blank.false), c.read_request.ensures)

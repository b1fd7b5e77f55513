use Rattle.hub.proofs.AuditLemmas.{unsettled_audited}
use Rattle.hub.proofs.audit.seats_that_never_settled_are_audited.Goals as goal

pub returns : goal.returns
returns c = unsettled_audited

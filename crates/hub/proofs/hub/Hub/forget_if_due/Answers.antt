use Rattle.hub.proofs.KnownLemmas.{forgot_or_not}
use Rattle.hub.proofs.hub.Hub.forget_if_due.Goals as goal

pub returns-in-Ok-true : goal.returns-in-Ok-true
returns-in-Ok-true g c = forgot_or_not _ _ _ _ _ _ c.in-Ok-true.is c.in-Ok-true.field-0-test c.forget_if_due.ensures

pub returns-in-Ok-false : goal.returns-in-Ok-false
returns-in-Ok-false g c = forgot_or_not _ _ _ _ _ _ c.in-Ok-false.is c.in-Ok-false.field-0-test c.forget_if_due.ensures

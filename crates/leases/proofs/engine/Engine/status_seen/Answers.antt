use Rattle.std.proofs.Common.{Ok, Err, refl}
use Rattle.reference.specs.StatusViews.{status_in}
use Rattle.leases.proofs.engine.Engine.status_seen.Goals as goal

pub returns-in-Ok-clause-sees : goal.returns-in-Ok-clause-sees
returns-in-Ok-clause-sees c = (Ok (status_in c.in-Ok.status), refl, tt)

pub returns-in-Ok-clause-shows : goal.returns-in-Ok-clause-shows
returns-in-Ok-clause-shows c = ((Ok (status_in c.in-Ok.status), refl, c.in-Ok.ensures.engine), c.status.ensures.upto)

pub returns-in-Err-clause-sees : goal.returns-in-Err-clause-sees
returns-in-Err-clause-sees c = (Err c.in-Err.fault, refl, c.in-Err.ensures.want)

pub returns-in-Err-clause-shows : goal.returns-in-Err-clause-shows
returns-in-Err-clause-shows c = ((Err c.in-Err.fault, refl, tt), c.status.ensures.upto)

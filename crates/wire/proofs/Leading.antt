-- What a call leads to, and what no later call tells of it.
use Rattle.std.proofs.Common.{◌≡◌, sym, ap, subst}
use Rattle.reference.specs.Alike.{Alike}
use Rattle.reference.specs.World.{World}
use Rattle.reference.proofs.AlikeLemmas.{world_itself}
use Rattle.wire.specs.Calls.{Call, declare, register, append, heartbeat, drain, take_rows, drop_query, forget, look}
use Rattle.wire.specs.Printed.{Answer}
use Rattle.wire.specs.Script.{LeadsAlike, LeadsTo}

-- a step to one world, and a world that no call tells from it
pub goes_alike : (defined : Answer × World) (answer : Answer) (now new : World) → defined ≡ (answer, now) → Alike now new → LeadsAlike defined answer new
goes_alike defined answer now new e alike = (ap (λ (p : Answer × World). p.0) e, subst (λ (p : Answer × World). Alike p.1 new) (sym e) alike)

pub goes_there : (defined : Answer × World) (answer : Answer) (new : World) → defined ≡ (answer, new) → LeadsAlike defined answer new
goes_there defined answer new e = goes_alike defined answer new new e (world_itself new)

pub leads_alike : (call : Call) (defined : Answer × World) (answer : Answer) (new : World) → LeadsTo call defined answer new → LeadsAlike defined answer new
leads_alike (declare name columns start) defined answer new e = goes_there defined answer new e
leads_alike (register name text chart) defined answer new e = goes_there defined answer new e
leads_alike (append stream rows) defined answer new e = goes_there defined answer new e
leads_alike (heartbeat stream at) defined answer new e = goes_there defined answer new e
leads_alike drain defined answer new l = l
leads_alike (take_rows query limit) defined answer new e = goes_there defined answer new e
leads_alike (drop_query query) defined answer new e = goes_there defined answer new e
leads_alike forget defined answer new l = l
leads_alike (look asked) defined answer new e = goes_there defined answer new e

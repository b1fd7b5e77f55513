-- No later call tells an engine from what it was before it forgot.
use Rattle.std.proofs.Common.{◌≡◌, ⊎_elim, sym, ap, ◌∙◌, subst}
use Rattle.std.specs.Prelude.{◌⊎◌}
use Rattle.reference.specs.Alike.{Alike}
use Rattle.reference.proofs.AlikeLemmas.{world_itself}
use Rattle.laws_engine.specs.Engines.{world_of}
use Rattle.laws_engine.specs.Openings.{forgotten}
use Rattle.laws_engine.specs.Unbroken.{IsUnbroken}
use Rattle.laws_engine.proofs.AlikeLemmas.{forgotten_alike}
use Rattle.leases.specs.Queues.{LeavesQueues}
use Rattle.leases.specs.Shown.{engine_in, world_in}
use Rattle.leases.specs.Sound.{IsSound, is_gone}
use Rattle.leases.specs.Whole.{IsWhole}
use Rattle.leases.specs.declared.state.EngineState.{EngineState}
use Rattle.leases.proofs.DropLemmas.{gone_at}
use Rattle.leases.proofs.KeptQueueLemmas.{forgotten_leaves, leaves_same}

unbroken : (s : EngineState) → IsSound s → IsWhole s → IsUnbroken (engine_in s)
unbroken s h whole = record { unbroken = whole.unbroken; gone = λ n q here left. gone_at (engine_in s).machine.queries (engine_in s).queries h.gone n q here ∙ ap is_gone left }

-- WHERE IT FORGOT
pub forgotten_is_alike : (s t : EngineState) → IsSound s → engine_in t ≡ forgotten (engine_in s) → IsWhole s → Alike (world_in s) (world_in t)
forgotten_is_alike s t h is whole = subst (λ e. Alike (world_in s) (world_of e)) (sym is) (forgotten_alike (engine_in s) h.good (unbroken s h whole))

-- or did nothing
same_is_alike : (s t : EngineState) → engine_in t ≡ engine_in s → Alike (world_in s) (world_in t)
same_is_alike s t is = subst (λ e. Alike (world_in s) (world_of e)) (sym is) (world_itself (world_in s))

pub tidied_is_alike : (s t : EngineState) → IsSound s → (engine_in t ≡ engine_in s) ⊎ (engine_in t ≡ forgotten (engine_in s)) → IsWhole s → Alike (world_in s) (world_in t)
tidied_is_alike s t h is whole = ⊎_elim (λ e. same_is_alike s t e) (λ e. forgotten_is_alike s t h e whole) is

pub tidied_leaves : (s t : EngineState) → IsSound s → (engine_in t ≡ engine_in s) ⊎ (engine_in t ≡ forgotten (engine_in s)) → LeavesQueues (engine_in s) (engine_in t)
tidied_leaves s t h is = ⊎_elim (λ e. leaves_same (engine_in s) (engine_in t) e) (λ e. forgotten_leaves (engine_in s) h.good (engine_in t) e) is

-- Why a worker could not go on: a turn that did not go out, since too many are out, goes out in no other size.
use Rattle.std.proofs.Common.{◌∙◌, ℕ, ◌≤◌, subst}
use Rattle.reference.specs.declared.fault.Fault.{Fault}
use Rattle.reference.specs.declared.limits.TheConstants.{MAX_TURN}
use Rattle.hub.specs.Steps.{PlainLocked, Withholds, engine_at}
use Rattle.hub.proofs.SizeLemmas.{same_fault}
use Rattle.hub.proofs.WithheldLemmas.{withheld_for}
use Rattle.workers.specs.Lacks.{Lacks}
use Rattle.workers.specs.Full.{WasFull}

-- where both sizes are in range
full_in_each_size : (rows : ℕ) → 1 ≤ rows → rows ≤ MAX_TURN → WasFull rows → (rows' : ℕ) → 1 ≤ rows' → rows' ≤ MAX_TURN → WasFull rows'
full_in_each_size rows low high w rows' low' high' = (
  w.0,
  w.1,
  record {
    legal = w.2.legal;
    refuses = (same_fault (engine_at w.0) rows rows' low high low' high' ∙ w.2.refuses.0, w.2.refuses.1);
  },
)

-- the fault of a turn that did not go out
pub withheld_lacks : (old new : PlainLocked) (rows : ℕ) (f : Fault) → 1 ≤ rows → rows ≤ MAX_TURN → Withholds old rows f new → Lacks f
withheld_lacks old new rows f low high h = record {
  known = withheld_for old new rows f low high h;
  turns = λ is. full_in_each_size rows low high (old, new, subst (λ (g : Fault). Withholds old rows g new) is h);
}

-- What a worker may be short of.
use Rattle.std.specs.Prelude.{◌≡◌, ◌≤◌, ◌⊎◌, ℕ, ⊤, Option, Some, Result, Ok, Err}
use Rattle.reference.specs.declared.fault.Fault.{Fault}
use Rattle.reference.specs.declared.fault.Fault.TheVariants.{OutOfMemory, TooManyLeases}
use Rattle.reference.specs.declared.limits.TheConstants.{MAX_TURN}
use Rattle.workers.specs.Full.{WasFull}

-- it is short of turns or of memory. Of turns: there was such a moment,
-- for turns of any size; of memory: no clause says when it runs out
pub record Lacks (fault : Fault) : Type 0 where
  pub known : (fault ≡ TooManyLeases) ⊎ (fault ≡ OutOfMemory)
  pub turns : fault ≡ TooManyLeases → (rows : ℕ) → 1 ≤ rows → rows ≤ MAX_TURN → WasFull rows

-- what is noted once a worker has ended so
abbrev pub noted : {W : Type 0} → Option W → Result ⊤ W → Option W
noted kept (Ok u) = kept
noted kept (Err want) = Some want

-- What answering requests has done so far.
use Rattle.std.specs.Prelude.{ℕ, Bool, List, Result, ◌≡◌, false}
use Rattle.wire.specs.Calls.{Call}
use Rattle.wire.specs.Printed.{Answer}
use Rattle.wire.specs.declared.request.WireFault.{WireFault}
use Rattle.wire.specs.Exchanges.{Runs}
use Rattle.reference.specs.World.{World}
use Rattle.wire.specs.Script.{LeadsAlike, is_scarce_reply, served}

-- Some requests lead from the one state to the other.
abbrev pub Leads : {T : Type 0} → (T → Result Call WireFault → Answer → T → Type 0)
    → (Result Call WireFault → Answer → Bool) → T → T → Type 0
Leads R notes first last = (requests : List (Result Call WireFault)) × (written : List ℕ)
    × (noted : Bool) × Runs R notes first requests written noted last

-- The reply is the defined one, and no later request tells the world after
-- it from the defined one, unless the reply says that something was scarce.
abbrev pub Replies : World → Result Call WireFault → Answer → World → Type 0
Replies old request answer new =
    is_scarce_reply request answer ≡ false → LeadsAlike (served old request) answer new

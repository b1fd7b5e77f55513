-- TO BELIEVE: the theorem rests on these definitions, and no proof can check them.
-- That a turn could not go out.
use Rattle.std.specs.Prelude.{ℕ}
use Rattle.reference.specs.declared.fault.Fault.TheVariants.{TooManyLeases}
use Rattle.hub.specs.Steps.{PlainLocked, Withholds}

-- there was a moment when an operator might take something, and no turn of at most
-- so many rows went out: as many were out as may be, or all numbers were given
abbrev pub WasFull : ℕ → Type 0
WasFull rows = (old : PlainLocked) × (new : PlainLocked) × Withholds old rows TooManyLeases new

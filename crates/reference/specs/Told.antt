-- Faults that say what a call got wrong.
use Rattle.reference.specs.declared.fault.Fault.{Fault}
use Rattle.reference.specs.declared.fault.Fault.TheVariants.{OutOfMemory}

-- not want of memory
abbrev pub IsTold : Fault → Type 0
IsTold OutOfMemory = ⊥
IsTold _ = Unit {0}

-- What the code of the programs needs beside what they promise.
use Rattle.std.specs.Prelude.{ℕ, List, codes}
use Rattle.wire.specs.declared.fault.ScriptFault.{ScriptFault}
use Rattle.wire.specs.declared.fault.ScriptFault.TheVariants.{Read, Write, Memory}

-- Some engine of this type has no numbers for turns left: whether the one that ran
-- had any is not said. Of a type whose engines always have numbers it never holds.
abbrev pub MayRunOut : {E : Type 0} → (E → Type 0) → Type 0
MayRunOut {E = E} has_numbers = (last : E) × (¬ has_numbers last)

-- the status after a fault
abbrev pub status_of : ScriptFault → ℕ
status_of Read = 1
status_of Write = 1
status_of Memory = 3

-- what is said of a word that is not UTF-8
abbrev pub no_text_line : List ℕ
no_text_line = codes "cqlrun: a word is not UTF-8\n"

-- the same of `cqld`
abbrev pub no_server_text_line : List ℕ
no_server_text_line = codes "cqld: a word is not UTF-8\n"

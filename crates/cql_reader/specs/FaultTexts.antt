-- The texts of faults.
use Rattle.std.specs.Prelude.{ℕ, List, ◌++◌, codes, decimal}
use Rattle.cql_reader.specs.declared.ReadFault.{ReadFault}
use Rattle.cql_reader.specs.declared.ReadFault.TheVariants.{OutOfMemory, TextTooLong, NotAscii}
use Rattle.cql_reader.specs.declared.ReadFault.TheVariants.{BadToken, Unexpected, NumberRange}
use Rattle.cql_reader.specs.declared.ReadFault.TheVariants.{TooDeep}

-- a fault's number and name, and the place of the token that is at fault
abbrev pub fault_text : ReadFault → List ℕ
fault_text OutOfMemory = codes "E20 OutOfMemory"
fault_text TextTooLong = codes "Q1 TextTooLong"
fault_text NotAscii = codes "Q2 NotAscii"
fault_text (BadToken place) = codes "Q3 BadToken at " ++ decimal place
fault_text (Unexpected place) = codes "Q4 Unexpected at " ++ decimal place
fault_text (NumberRange place) = codes "Q5 NumberRange at " ++ decimal place
fault_text (TooDeep place) = codes "Q6 TooDeep at " ++ decimal place

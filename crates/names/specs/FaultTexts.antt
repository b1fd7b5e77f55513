-- TO BELIEVE: the theorem rests on these definitions, and no proof can check them.
-- The texts of faults.
use Rattle.std.specs.Prelude.{ℕ, List, codes}
use Rattle.names.specs.declared.fault.ResolveFault.{ResolveFault}
use Rattle.names.specs.declared.fault.ResolveFault.TheVariants.{UnknownStream, UnknownColumn}
use Rattle.names.specs.declared.fault.ResolveFault.TheVariants.{AmbiguousColumn, DuplicateAlias}
use Rattle.names.specs.declared.fault.ResolveFault.TheVariants.{NoJoinKey, NotGrouped, TooWide}

abbrev pub fault_text : ResolveFault → List ℕ
fault_text UnknownStream = codes "Q7 UnknownStream"
fault_text UnknownColumn = codes "Q8 UnknownColumn"
fault_text AmbiguousColumn = codes "Q9 AmbiguousColumn"
fault_text DuplicateAlias = codes "Q10 DuplicateAlias"
fault_text NoJoinKey = codes "Q11 NoJoinKey"
fault_text NotGrouped = codes "Q12 NotGrouped"
fault_text TooWide = codes "Q13 TooWide"

-- TO BELIEVE: the theorem rests on these definitions, and no proof can check them.
-- The bytes of a name of the code.
use Rattle.std.specs.Prelude.{ℕ, List, take}
use Rattle.cql_reader.specs.declared.name.Name.{Name}

abbrev pub name_of : Name → List ℕ
name_of name = take name.len name.bytes

-- TO BELIEVE: the theorem rests on these definitions, and no proof can check them.
-- The names of a stream's columns, as the code has them.
use Rattle.std.specs.Prelude.{ℕ, List, map}
use Rattle.cql_reader.specs.Names.{name_of}
use Rattle.cql_reader.specs.declared.name.Name.{Name}

abbrev pub names_of : List Name → List (List ℕ)
names_of names = map name_of names

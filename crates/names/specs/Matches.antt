-- TO BELIEVE: the theorem rests on these definitions, and no proof can check them.
-- What a reference names: the columns that it matches in the sources of a query.
use Rattle.std.specs.Prelude.{ℕ, suc, Bool, true, cond, Option, Some, None, List, [], ◌∷◌, ◌++◌}
use Rattle.std.specs.Prelude.{map, unwrap_or}
use Rattle.std.specs.Str.{bytes_eq}
use Rattle.values.specs.Condition.{SourceColumn}
use Rattle.cql_reader.specs.Query.{Reference, WrittenSource}
use Rattle.names.specs.Catalog.{Stream, columns_in}

-- a source of a query: its name there, and the columns of its stream
pub record Table : Type 0 where
  pub name : List ℕ
  pub columns : List (List ℕ)

-- a source is named by its alias, otherwise by its stream
abbrev pub name_of : WrittenSource → List ℕ
name_of s = unwrap_or s.alias s.stream

abbrev pub table_of : List Stream → WrittenSource → Table
table_of catalog s = record { name = name_of s; columns = columns_in catalog s.stream }

abbrev pub tables : List Stream → List WrittenSource → List Table
tables catalog sources = map (table_of catalog) sources

-- the places of a name among names, of which the first has the place n
abbrev pub places : ℕ → List ℕ → List (List ℕ) → List ℕ
places n name [] = []
places n name (x ∷ xs) = cond (bytes_eq x name) (n ∷ places (suc n) name xs)
    (places (suc n) name xs)

-- a qualifier, where there is one, is the name of the source
abbrev pub allows : Option (List ℕ) → List ℕ → Bool
allows None name = true
allows (Some qualifier) name = bytes_eq name qualifier

-- the columns of a source at the places
abbrev pub columns_at : ℕ → List ℕ → List SourceColumn
columns_at source places = map (λ k. record { source = source; column = k }) places

-- the columns that a reference matches in a source
abbrev pub matches_in : ℕ → Reference → Table → List SourceColumn
matches_in source r t = cond (allows r.qualifier t.name)
    (columns_at source (places 0 r.name t.columns)) []

-- the columns that a reference matches in sources, of which the first has the number s
abbrev pub matches : ℕ → List Table → Reference → List SourceColumn
matches s [] r = []
matches s (t ∷ ts) r = matches_in s r t ++ matches (suc s) ts r

abbrev pub first_column : List SourceColumn → SourceColumn
first_column [] = record { source = 0; column = 0 }
first_column (c ∷ cs) = c

-- the column that a reference names: the one that it matches, where it matches one
abbrev pub column_of : List Table → Reference → SourceColumn
column_of ts r = first_column (matches 0 ts r)

-- the place of the column that a reference names in a source alone
abbrev pub place_in : Table → Reference → ℕ
place_in t r = (first_column (matches_in 0 r t)).column

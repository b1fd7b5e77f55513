-- TO BELIEVE: the theorem rests on these definitions, and no proof can check them.
-- The grammar of query texts, and the query that a derivation builds.
use Rattle.std.specs.Prelude.{◌≡◌, ℕ, ◌+◌, ◌-◌, Bool, true, false, ◌&&◌, not, ◌⊎◌, List, [], ◌∷◌}
use Rattle.std.specs.Prelude.{◌++◌, Option, Some, None, cond, nat_lt, ℤ, pos, negsuc, int_lt}
use Rattle.std.specs.Prelude.{nat_abs}
use Rattle.values.specs.Answers.{StreamOperator, Istream}
use Rattle.values.specs.declared.reach.Reach.{Reach}
use Rattle.values.specs.declared.reach.Reach.TheVariants as reach
use Rattle.values.specs.declared.resolved.Compare.{Compare}
use Rattle.values.specs.StreamOperators.{operator_of}
use Rattle.values.specs.declared.resolved.StreamOperator.TheVariants as o
use Rattle.values.specs.declared.resolved.Aggregate.TheVariants as g
use Rattle.values.specs.declared.resolved.Compare.TheVariants as c
use Rattle.cql_reader.specs.declared.tokens.TokenKind.{TokenKind}
use Rattle.cql_reader.specs.declared.tokens.TokenKind.TheVariants as k
use Rattle.cql_reader.specs.declared.symbols.Part.{Part}
use Rattle.cql_reader.specs.declared.symbols.Part.TheVariants as p
use Rattle.cql_reader.specs.declared.symbols.Role.{Role}
use Rattle.cql_reader.specs.declared.symbols.Role.TheVariants as r
use Rattle.cql_reader.specs.declared.symbols.Mark.{Mark}
use Rattle.cql_reader.specs.declared.symbols.Mark.TheVariants as m
use Rattle.cql_reader.specs.declared.symbols.Symbol.{Symbol}
use Rattle.cql_reader.specs.declared.symbols.Symbol.TheVariants.{Read, Rule, Emit}
use Rattle.cql_reader.specs.Lexis.{number_of}
use Rattle.cql_reader.specs.Tokens.{Token}
use Rattle.cql_reader.specs.Query.{Query, WrittenSource, WrittenEntry, Column, CountAll, Of}
use Rattle.cql_reader.specs.Query.{Entries, All, Each, Reference, WrittenWindow, Instants, Rows}
use Rattle.cql_reader.specs.Query.{Partition, WrittenOperand, Named, Number, WrittenCondition}
use Rattle.cql_reader.specs.Query.{Compared, Not, And, Or}

-- a token of this kind, which says nothing more
abbrev pub token : TokenKind → Symbol
token kind = Read (r.Fixed kind)

-- the alternatives of each part of a query
unfoldable pub alternatives : Part → List (List Symbol)
alternatives p.Query = (Rule p.Form ∷ Rule p.End ∷ []) ∷ []
alternatives p.Form = (token k.Select ∷ Rule p.Op ∷ token k.Open ∷ Rule p.Body ∷ token k.Close
    ∷ Rule p.Rest ∷ []) ∷ (Rule p.Op ∷ token k.Open ∷ token k.Select ∷ Rule p.Body ∷ Rule p.Rest
    ∷ token k.Close ∷ []) ∷ []
alternatives p.Op = (Read (r.Operator o.Istream) ∷ []) ∷ (Read (r.Operator o.Dstream) ∷ [])
    ∷ (Read (r.Operator o.Rstream) ∷ []) ∷ []
alternatives p.Body = (Rule p.OptDistinct ∷ Rule p.List ∷ []) ∷ []
alternatives p.OptDistinct = (Read r.Distinct ∷ []) ∷ ([]) ∷ []
alternatives p.List = (token k.Star ∷ []) ∷ (Rule p.Item ∷ Rule p.ItemTail ∷ []) ∷ []
alternatives p.ItemTail = (token k.Comma ∷ Rule p.Item ∷ Rule p.ItemTail ∷ []) ∷ ([]) ∷ []
alternatives p.Item = (Rule p.Value ∷ Rule p.OptAs ∷ []) ∷ []
alternatives p.Value = (Rule p.Column ∷ Emit m.Column ∷ [])
    ∷ (token k.Count ∷ token k.Open ∷ Rule p.Counted ∷ token k.Close ∷ [])
    ∷ (token k.Sum ∷ token k.Open ∷ Rule p.Column ∷ token k.Close ∷ Emit (m.Of g.Sum) ∷ [])
    ∷ (token k.Min ∷ token k.Open ∷ Rule p.Column ∷ token k.Close ∷ Emit (m.Of g.Min) ∷ [])
    ∷ (token k.Max ∷ token k.Open ∷ Rule p.Column ∷ token k.Close ∷ Emit (m.Of g.Max) ∷ []) ∷ []
alternatives p.Counted = (token k.Star ∷ Emit m.CountAll ∷ [])
    ∷ (Rule p.Column ∷ Emit (m.Of g.Count) ∷ []) ∷ []
alternatives p.OptAs = (token k.As ∷ token k.Name ∷ []) ∷ ([]) ∷ []
alternatives p.Column = (Read r.Column ∷ Rule p.ColumnTail ∷ []) ∷ []
alternatives p.ColumnTail = (token k.Dot ∷ Read r.Qualified ∷ []) ∷ ([]) ∷ []
alternatives p.Rest = (token k.From ∷ Rule p.Source ∷ Rule p.OptSource ∷ Rule p.OptWhere
    ∷ Rule p.OptGroup ∷ []) ∷ []
alternatives p.OptSource = (token k.Comma ∷ Rule p.Source ∷ Rule p.OptThird ∷ []) ∷ ([]) ∷ []
alternatives p.OptThird = (token k.Comma ∷ Rule p.Source ∷ Rule p.OptFourth ∷ []) ∷ ([]) ∷ []
alternatives p.OptFourth = (token k.Comma ∷ Rule p.Source ∷ []) ∷ ([]) ∷ []
alternatives p.Source = (Read r.Stream ∷ Rule p.SourceTail ∷ Emit m.Source ∷ []) ∷ []
alternatives p.SourceTail = (Rule p.Window ∷ Rule p.OptAlias ∷ [])
    ∷ (Rule p.Alias ∷ Rule p.OptWindow ∷ []) ∷ ([]) ∷ []
alternatives p.OptAlias = (Rule p.Alias ∷ []) ∷ ([]) ∷ []
alternatives p.Alias = (token k.As ∷ Read r.Alias ∷ []) ∷ (Read r.Alias ∷ []) ∷ []
alternatives p.OptWindow = (Rule p.Window ∷ []) ∷ ([]) ∷ []
alternatives p.Window = (token k.Left ∷ Rule p.Frame ∷ token k.Right ∷ []) ∷ []
alternatives p.Frame = (Read r.Now ∷ []) ∷ (token k.Range ∷ Rule p.Span ∷ [])
    ∷ (token k.Rows ∷ Rule p.Last ∷ [])
    ∷ (token k.Partition ∷ token k.By ∷ Rule p.Columns ∷ token k.Rows ∷ Read r.Partition ∷ []) ∷ []
alternatives p.Span = (Read r.Range ∷ Rule p.OptSlide ∷ []) ∷ (Read r.Unbounded ∷ []) ∷ []
alternatives p.OptSlide = (token k.Slide ∷ Read r.Slide ∷ []) ∷ ([]) ∷ []
alternatives p.Last = (Read r.Rows ∷ []) ∷ (Read r.Unbounded ∷ []) ∷ []
alternatives p.Columns = (Rule p.Column ∷ Emit m.Listed ∷ Rule p.ColumnsTail ∷ []) ∷ []
alternatives p.ColumnsTail = (token k.Comma ∷ Rule p.Column ∷ Emit m.Listed ∷ Rule p.ColumnsTail
    ∷ []) ∷ ([]) ∷ []
alternatives p.OptWhere = (token k.Where ∷ Rule p.Or ∷ []) ∷ ([]) ∷ []
alternatives p.Or = (Rule p.And ∷ Rule p.OrTail ∷ []) ∷ []
alternatives p.OrTail = (token k.Or ∷ Rule p.And ∷ Emit m.Disjoin ∷ Rule p.OrTail ∷ []) ∷ ([]) ∷ []
alternatives p.And = (Rule p.Not ∷ Rule p.AndTail ∷ []) ∷ []
alternatives p.AndTail = (token k.And ∷ Rule p.Not ∷ Emit m.Conjoin ∷ Rule p.AndTail
    ∷ []) ∷ ([]) ∷ []
alternatives p.Not = (Read (r.Deeper k.Not) ∷ Rule p.Not ∷ Emit m.Negate ∷ Emit m.Leave ∷ [])
    ∷ (Read (r.Deeper k.Open) ∷ Rule p.Or ∷ token k.Close ∷ Emit m.Leave ∷ [])
    ∷ (Rule p.Operand ∷ Rule p.Compare ∷ Rule p.Operand ∷ Emit m.Compared ∷ []) ∷ []
alternatives p.Operand = (Rule p.Column ∷ Emit m.Named ∷ []) ∷ (Read r.Number ∷ []) ∷ []
alternatives p.Compare = (Read (r.Compare c.Equals) ∷ []) ∷ (Read (r.Compare c.Differs) ∷ [])
    ∷ (Read (r.Compare c.Below) ∷ []) ∷ (Read (r.Compare c.AtMost) ∷ [])
    ∷ (Read (r.Compare c.Above) ∷ []) ∷ (Read (r.Compare c.AtLeast) ∷ []) ∷ []
alternatives p.OptGroup = (token k.Group ∷ token k.By ∷ Rule p.Columns ∷ Emit m.Grouped
    ∷ []) ∷ ([]) ∷ []
alternatives p.End = (token k.Semicolon ∷ []) ∷ ([]) ∷ []

-- the kind that a token of this role has
unfoldable pub kind_of : Role → TokenKind
kind_of (r.Fixed kind) = kind
kind_of (r.Operator o.Istream) = k.Istream
kind_of (r.Operator o.Dstream) = k.Dstream
kind_of (r.Operator o.Rstream) = k.Rstream
kind_of r.Distinct = k.Distinct
kind_of r.Column = k.Name
kind_of r.Qualified = k.Name
kind_of r.Stream = k.Name
kind_of r.Alias = k.Name
kind_of r.Now = k.Now
kind_of r.Range = k.Number
kind_of r.Slide = k.Number
kind_of r.Unbounded = k.Unbounded
kind_of r.Rows = k.Number
kind_of r.Partition = k.Number
kind_of r.Number = k.Number
kind_of (r.Compare c.Equals) = k.Equal
kind_of (r.Compare c.Differs) = k.Unequal
kind_of (r.Compare c.Below) = k.Less
kind_of (r.Compare c.AtMost) = k.AtMost
kind_of (r.Compare c.Above) = k.Greater
kind_of (r.Compare c.AtLeast) = k.AtLeast
kind_of (r.Deeper kind) = kind

-- the condition as far as it is read: the last two operands, the
-- last comparison, and the conditions that stand, the last first
pub record Terms : Type 0 where
  pub left : WrittenOperand
  pub right : WrittenOperand
  pub how : Compare
  pub standing : List WrittenCondition

-- a query as far as it is read
pub record Draft : Type 0 where
  pub operator : StreamOperator
  pub is_distinct : Bool
  pub entries : List WrittenEntry
  -- the column that is read, and the list of columns
  pub reference : Reference
  pub columns : List Reference
  -- the source that is read, and those that are complete
  pub source : WrittenSource
  pub sources : List WrittenSource
  pub terms : Terms
  pub group : List Reference
  -- how many ( and Not of the condition are open
  pub depth : ℕ

-- the window of a stream without one, and of each that is unbounded
abbrev pub unbounded : WrittenWindow
unbounded = Instants reach.All

-- a source of which nothing is read
abbrev pub no_source : WrittenSource
no_source = record { stream = []; window = unbounded; alias = None }

abbrev pub no_terms : Terms
no_terms = record { left = Number (pos 0); right = Number (pos 0); how = c.Equals; standing = [] }

-- before the first token
abbrev pub start : Draft
start = record {
  operator = Istream;
  is_distinct = false;
  entries = [];
  reference = record { qualifier = None; name = [] };
  columns = [];
  source = no_source;
  sources = [];
  terms = no_terms;
  group = [];
  depth = 0;
}

-- `*` stands where the list has no item
abbrev pub listed : List WrittenEntry → Entries
listed [] = All
listed (entry ∷ entries) = Each (entry ∷ entries)

-- the condition that stands last
abbrev pub last_standing : List WrittenCondition → Option WrittenCondition
last_standing [] = None
last_standing (a ∷ rest) = Some a

-- the query that is complete
abbrev pub finished : Draft → Query
finished d = record {
  operator = d.operator;
  is_distinct = d.is_distinct;
  entries = listed d.entries;
  sources = d.sources;
  condition = last_standing d.terms.standing;
  group = d.group;
}

-- the source with this window
abbrev pub windowed : WrittenWindow → WrittenSource → WrittenSource
windowed window s = record { stream = s.stream; window = window; alias = s.alias }

-- the last instants, which move at multiples of the step alone
abbrev pub slid_reach : ℕ → Reach → Reach
slid_reach step reach.All = reach.All
slid_reach step (reach.Last instants) = reach.Steps instants step
slid_reach step (reach.Steps instants other) = reach.Steps instants other

-- so of a window
abbrev pub sliding : ℕ → WrittenWindow → WrittenWindow
sliding step (Instants r) = Instants (slid_reach step r)
sliding step (Rows rows) = Rows rows
sliding step (Partition by rows) = Partition by rows

-- the last rows for each value of the columns, of which there is one at least
abbrev pub partitioned : List Reference → ℕ → WrittenWindow → WrittenWindow
partitioned [] rows window = window
partitioned (column ∷ columns) rows window = Partition (column ∷ columns) rows

-- one more operand
abbrev pub sided : WrittenOperand → Terms → Terms
sided operand t = record { left = t.right; right = operand; how = t.how; standing = t.standing }

-- the last two operands stand compared
abbrev pub compared : Terms → Terms
compared t = record {
  left = t.left;
  right = t.right;
  how = t.how;
  standing = Compared t.left t.how t.right ∷ t.standing;
}

abbrev pub negated : List WrittenCondition → List WrittenCondition
negated [] = []
negated (a ∷ rest) = Not a ∷ rest

abbrev pub conjoined : List WrittenCondition → List WrittenCondition
conjoined [] = []
conjoined (b ∷ []) = b ∷ []
conjoined (b ∷ a ∷ rest) = And a b ∷ rest

abbrev pub disjoined : List WrittenCondition → List WrittenCondition
disjoined [] = []
disjoined (b ∷ []) = b ∷ []
disjoined (b ∷ a ∷ rest) = Or a b ∷ rest

abbrev pub standing_by : (List WrittenCondition → List WrittenCondition) → Terms → Terms
standing_by f t = record { left = t.left; right = t.right; how = t.how; standing = f t.standing }

-- the columns are those of the source's window
abbrev pub parted : ℕ → Draft → Draft
parted rows d = record d {
  source = windowed (partitioned d.columns rows d.source.window) d.source;
  columns = [];
}

-- the source's window slides
abbrev pub slid : ℕ → Draft → Draft
slid step d = record d { source = windowed (sliding step d.source.window) d.source }

-- what a token of this role and these bytes says
unfoldable pub took : Role → List ℕ → Draft → Draft
took (r.Fixed kind) bytes d = d
took (r.Operator operator) bytes d = record d { operator = operator_of operator }
took r.Distinct bytes d = record d { is_distinct = true }
took r.Column bytes d = record d { reference = record { qualifier = None; name = bytes } }
took r.Qualified bytes d = record d {
  reference = record { qualifier = Some d.reference.name; name = bytes };
}
took r.Stream bytes d = record d {
  source = record { stream = bytes; window = unbounded; alias = None };
}
took r.Alias bytes d = record d {
  source = record { stream = d.source.stream; window = d.source.window; alias = Some bytes };
}
took r.Now bytes d = record d { source = windowed (Instants (reach.Last 0)) d.source }
took r.Range bytes d = record d {
  source = windowed (Instants (reach.Last (nat_abs (number_of bytes)))) d.source;
}
took r.Slide bytes d = slid (nat_abs (number_of bytes)) d
took r.Unbounded bytes d = record d { source = windowed unbounded d.source }
took r.Rows bytes d = record d { source = windowed (Rows (nat_abs (number_of bytes))) d.source }
took r.Partition bytes d = parted (nat_abs (number_of bytes)) d
took r.Number bytes d = record d { terms = sided (Number (number_of bytes)) d.terms }
took (r.Compare how) bytes d =
    record d {
      terms = record {
        left = d.terms.left;
        right = d.terms.right;
        how = how;
        standing = d.terms.standing;
      };
    }
took (r.Deeper kind) bytes d = record d { depth = d.depth + 1 }

-- the list with one more item
abbrev pub entered : WrittenEntry → Draft → Draft
entered entry d = record d { entries = d.entries ++ entry ∷ [] }

-- what is done between tokens
unfoldable pub did : Mark → Draft → Draft
did m.Column d = entered (Column d.reference) d
did m.CountAll d = entered CountAll d
did (m.Of aggregate) d = entered (Of aggregate d.reference) d
did m.Listed d = record d { columns = d.columns ++ d.reference ∷ [] }
did m.Grouped d = record d { group = d.columns; columns = [] }
did m.Source d = record d { sources = d.sources ++ d.source ∷ []; source = no_source }
did m.Named d = record d { terms = sided (Named d.reference) d.terms }
did m.Compared d = record d { terms = compared d.terms }
did m.Negate d = record d { terms = standing_by negated d.terms }
did m.Conjoin d = record d { terms = standing_by conjoined d.terms }
did m.Disjoin d = record d { terms = standing_by disjoined d.terms }
did m.Leave d = record d { depth = d.depth - 1 }

-- from 0 to 1,099,511,627,776
abbrev pub in_span : ℤ → Bool
in_span n = not (int_lt n (pos 0)) && int_lt n (pos 1099511627777)

-- from 1 to 1,099,511,627,776
abbrev pub in_step : ℤ → Bool
in_step n = not (int_lt n (pos 1)) && int_lt n (pos 1099511627777)

-- from 1 to 65,536
abbrev pub in_rows : ℤ → Bool
in_rows n = not (int_lt n (pos 1)) && int_lt n (pos 65537)

-- from -1,099,511,627,775 to 1,099,511,627,775
abbrev pub in_stream : ℤ → Bool
in_stream n = not (int_lt n (negsuc 1099511627774)) && int_lt n (pos 1099511627776)

-- whether a number is in the range of its place
unfoldable pub in_range : Role → ℤ → Bool
in_range (r.Fixed kind) n = true
in_range (r.Operator operator) n = true
in_range r.Distinct n = true
in_range r.Column n = true
in_range r.Qualified n = true
in_range r.Stream n = true
in_range r.Alias n = true
in_range r.Now n = true
in_range r.Range n = in_span n
in_range r.Slide n = in_step n
in_range r.Unbounded n = true
in_range r.Rows n = in_rows n
in_range r.Partition n = in_rows n
in_range r.Number n = in_stream n
in_range (r.Compare how) n = true
in_range (r.Deeper kind) n = true

-- a ( or Not of the condition, which makes one more that is open
unfoldable pub deepens : Role → Bool
deepens (r.Fixed kind) = false
deepens (r.Operator operator) = false
deepens r.Distinct = false
deepens r.Column = false
deepens r.Qualified = false
deepens r.Stream = false
deepens r.Alias = false
deepens r.Now = false
deepens r.Range = false
deepens r.Slide = false
deepens r.Unbounded = false
deepens r.Rows = false
deepens r.Partition = false
deepens r.Number = false
deepens (r.Compare how) = false
deepens (r.Deeper kind) = true

-- whether it may be open: at most 32 are
abbrev pub may_open : Role → ℕ → Bool
may_open role depth = cond (deepens role) (nat_lt depth 32) true

-- which demands count: the grammar alone; and numbers in range; and at most 32 open
pub data Level : Type 0 where
  Shape : Level
  Ranged : Level
  Strict : Level

unfoldable pub allowed : Level → Role → Draft → Token → Bool
allowed Shape role d t = true
allowed Ranged role d t = in_range role (number_of t.bytes)
allowed Strict role d t = in_range role (number_of t.bytes) && may_open role d.depth

-- among x xs: x is one of xs
abbrev pub Among : {A : Type 0} → A → List A → Type 0
Among a [] = ⊥
Among a (b ∷ bs) = (a ≡ b) ⊎ Among a bs

-- the symbols stand for the tokens, which lead from the draft d to d'
pub data Derives (level : Level) : List Symbol → Draft → List Token → Draft → Type 0 where
  nothing : {d : Draft} → Derives level [] d [] d
  read : {role : Role} {xs : List Symbol} {d : Draft} {t : Token} {ts : List Token} {d' : Draft}
      → t.kind ≡ kind_of role → allowed level role d t ≡ true
      → Derives level xs (took role t.bytes d) ts d' → Derives level (Read role ∷ xs) d (t ∷ ts) d'
  emit : {mark : Mark} {xs : List Symbol} {d : Draft} {ts : List Token} {d' : Draft}
      → Derives level xs (did mark d) ts d' → Derives level (Emit mark ∷ xs) d ts d'
  rule : {part : Part} {xs : List Symbol} {d : Draft} {ts : List Token} {d' : Draft}
      (ys : List Symbol) → Among ys (alternatives part) → Derives level (ys ++ xs) d ts d'
      → Derives level (Rule part ∷ xs) d ts d'

abbrev pub whole : List Symbol
whole = Rule p.Query ∷ []

-- the tokens are a query, of which the draft d is left
abbrev pub IsQuery : Level → List Token → Draft → Type 0
IsQuery level tokens d = Derives level whole start tokens d

-- some continuation makes the tokens a query
abbrev pub Begins : Level → List Token → Type 0
Begins level tokens = (more : List Token) × ((d : Draft) × IsQuery level (tokens ++ more) d)

-- no continuation makes the tokens a query
abbrev pub Fails : Level → List Token → Type 0
Fails level tokens = Begins level tokens → ⊥

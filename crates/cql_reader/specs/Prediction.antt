-- The tables by which the next token chooses an alternative, and the query that they find.
use Rattle.std.specs.Prelude.{ℕ, zero, suc, ◌+◌, ◌*◌, Bool, true, false, ◌&&◌, ◌||◌, List, [], ◌∷◌}
use Rattle.std.specs.Prelude.{◌++◌, cond, Option, Some, None, Result, Ok, Err}
use denote.Enum.Bare.{sameb}
use Rattle.cql_reader.specs.contracts.tokens.TokenKind.{the_type}
use Rattle.cql_reader.specs.declared.tokens.TokenKind.{TokenKind}
use Rattle.cql_reader.specs.declared.tokens.TokenKind.TheVariants as k
use Rattle.cql_reader.specs.declared.symbols.Part.{Part}
use Rattle.cql_reader.specs.declared.symbols.Part.TheVariants as p
use Rattle.cql_reader.specs.declared.symbols.Symbol.{Symbol}
use Rattle.cql_reader.specs.declared.symbols.Symbol.TheVariants.{Read, Rule, Emit}
use Rattle.cql_reader.specs.Lexis.{number_of}
use Rattle.cql_reader.specs.Scanning.{Scan, End, Bad, Then}
use Rattle.cql_reader.specs.Grammar.{alternatives, kind_of, in_range, may_open, Draft, took, did}
use Rattle.cql_reader.specs.Grammar.{start, whole}
use Rattle.cql_reader.specs.Fault.{Fault, BadToken, Unexpected, NumberRange, TooDeep}

abbrev pub same_kind : TokenKind → TokenKind → Bool
same_kind a b = sameb the_type a b

unfoldable pub has : List TokenKind → TokenKind → Bool
has [] kind = false
has (x ∷ xs) kind = same_kind x kind || has xs kind

-- the kinds that a part can begin with
unfoldable pub first : Part → List TokenKind
first p.Query = k.Select ∷ k.Istream ∷ k.Dstream ∷ k.Rstream ∷ []
first p.Form = k.Select ∷ k.Istream ∷ k.Dstream ∷ k.Rstream ∷ []
first p.Op = k.Istream ∷ k.Dstream ∷ k.Rstream ∷ []
first p.Body = k.Distinct ∷ k.Count ∷ k.Sum ∷ k.Min ∷ k.Max ∷ k.Name ∷ k.Star ∷ []
first p.OptDistinct = k.Distinct ∷ []
first p.List = k.Count ∷ k.Sum ∷ k.Min ∷ k.Max ∷ k.Name ∷ k.Star ∷ []
first p.ItemTail = k.Comma ∷ []
first p.Item = k.Count ∷ k.Sum ∷ k.Min ∷ k.Max ∷ k.Name ∷ []
first p.Value = k.Count ∷ k.Sum ∷ k.Min ∷ k.Max ∷ k.Name ∷ []
first p.Counted = k.Name ∷ k.Star ∷ []
first p.OptAs = k.As ∷ []
first p.Column = k.Name ∷ []
first p.ColumnTail = k.Dot ∷ []
first p.Rest = k.From ∷ []
first p.OptSource = k.Comma ∷ []
first p.OptThird = k.Comma ∷ []
first p.OptFourth = k.Comma ∷ []
first p.Source = k.Name ∷ []
first p.SourceTail = k.As ∷ k.Name ∷ k.Left ∷ []
first p.OptAlias = k.As ∷ k.Name ∷ []
first p.Alias = k.As ∷ k.Name ∷ []
first p.OptWindow = k.Left ∷ []
first p.Window = k.Left ∷ []
first p.Frame = k.Range ∷ k.Rows ∷ k.Partition ∷ k.Now ∷ []
first p.Span = k.Unbounded ∷ k.Number ∷ []
first p.OptSlide = k.Slide ∷ []
first p.Last = k.Unbounded ∷ k.Number ∷ []
first p.Columns = k.Name ∷ []
first p.ColumnsTail = k.Comma ∷ []
first p.OptWhere = k.Where ∷ []
first p.Or = k.Not ∷ k.Name ∷ k.Number ∷ k.Open ∷ []
first p.OrTail = k.Or ∷ []
first p.And = k.Not ∷ k.Name ∷ k.Number ∷ k.Open ∷ []
first p.AndTail = k.And ∷ []
first p.Not = k.Not ∷ k.Name ∷ k.Number ∷ k.Open ∷ []
first p.Operand = k.Name ∷ k.Number ∷ []
first p.Compare = k.Equal ∷ k.Unequal ∷ k.Less ∷ k.AtMost ∷ k.Greater ∷ k.AtLeast ∷ []
first p.OptGroup = k.Group ∷ []
first p.End = k.Semicolon ∷ []

-- a part that may be missing
unfoldable pub nullable : Part → Bool
nullable p.Query = false
nullable p.Form = false
nullable p.Op = false
nullable p.Body = false
nullable p.OptDistinct = true
nullable p.List = false
nullable p.ItemTail = true
nullable p.Item = false
nullable p.Value = false
nullable p.Counted = false
nullable p.OptAs = true
nullable p.Column = false
nullable p.ColumnTail = true
nullable p.Rest = false
nullable p.OptSource = true
nullable p.OptThird = true
nullable p.OptFourth = true
nullable p.Source = false
nullable p.SourceTail = true
nullable p.OptAlias = true
nullable p.Alias = false
nullable p.OptWindow = true
nullable p.Window = false
nullable p.Frame = false
nullable p.Span = false
nullable p.OptSlide = true
nullable p.Last = false
nullable p.Columns = false
nullable p.ColumnsTail = true
nullable p.OptWhere = true
nullable p.Or = false
nullable p.OrTail = true
nullable p.And = false
nullable p.AndTail = true
nullable p.Not = false
nullable p.Operand = false
nullable p.Compare = false
nullable p.OptGroup = true
nullable p.End = true

-- whether the symbols can begin with a token of this kind
unfoldable pub firsts : List Symbol → TokenKind → Bool
firsts [] kind = false
firsts (Read role ∷ xs) kind = same_kind (kind_of role) kind
firsts (Rule part ∷ xs) kind = has (first part) kind || (nullable part && firsts xs kind)
firsts (Emit mark ∷ xs) kind = firsts xs kind

-- whether the symbols can stand for no token
unfoldable pub ends : List Symbol → Bool
ends [] = true
ends (Read role ∷ xs) = false
ends (Rule part ∷ xs) = nullable part && ends xs
ends (Emit mark ∷ xs) = ends xs

-- the first of the alternatives that passes
unfoldable pub pick : (List Symbol → Bool) → List (List Symbol) → Option (List Symbol)
pick f [] = None
pick f (ys ∷ yss) = cond (f ys) (Some ys) (pick f yss)

abbrev pub or_else : Option (List Symbol) → Option (List Symbol) → Option (List Symbol)
or_else None b = b
or_else (Some a) b = Some a

-- the alternative that a part has at this next kind of token, or at the end of the text
unfoldable pub chosen : Part → Option TokenKind → Option (List Symbol)
chosen part None = pick ends (alternatives part)
chosen part (Some kind) = or_else (pick (λ ys. firsts ys kind) (alternatives part))
    (pick ends (alternatives part))

-- the kind of the next token
abbrev pub ahead : Scan → Option TokenKind
ahead (End place) = None
ahead (Bad place) = None
ahead (Then t more) = Some t.kind

-- the fault where no query goes on so
abbrev pub stopped : Scan → Fault
stopped (End place) = Unexpected place
stopped (Bad place) = BadToken place
stopped (Then t more) = Unexpected t.place

-- the whole query, where no symbol is left
abbrev pub closed : Draft → Scan → Result Draft Fault
closed d (End place) = Ok d
closed d (Bad place) = Err (BadToken place)
closed d (Then t more) = Err (Unexpected t.place)

-- the draft after a token of this kind and number, where one more may be open, or the fault at it
abbrev pub taken : Bool → Bool → Bool → ℕ → Result Draft Fault → Result Draft Fault
taken false fits opens place after = Err (Unexpected place)
taken true false opens place after = Err (NumberRange place)
taken true true false place after = Err (TooDeep place)
taken true true true place after = after

-- goes on by the alternative, where there is one
abbrev pub along : Option (List Symbol) → Scan → (List Symbol → Result Draft Fault)
    → Result Draft Fault
along None rest go = Err (stopped rest)
along (Some ys) rest go = go ys

-- the draft that the symbols leave of the tokens, in so many
-- steps: each part by the alternative that the next token chooses
unfoldable pub run : ℕ → List Symbol → Draft → Scan → Result Draft Fault
run zero xs d rest = Err (stopped rest)
run (suc n) [] d rest = closed d rest
run (suc n) (Emit mark ∷ xs) d rest = run n xs (did mark d) rest
run (suc n) (Read role ∷ xs) d (End place) = Err (Unexpected place)
run (suc n) (Read role ∷ xs) d (Bad place) = Err (BadToken place)
run (suc n) (Read role ∷ xs) d (Then t more) =
    taken (same_kind t.kind (kind_of role)) (in_range role (number_of t.bytes))
    (may_open role d.depth) t.place (run n xs (took role t.bytes d) more)
run (suc n) (Rule part ∷ xs) d rest =
    along (chosen part (ahead rest)) rest (λ ys. run n (ys ++ xs) d rest)

-- a bound on the steps that a symbol takes without reading a token
unfoldable pub weight : Part → ℕ
weight p.Query = 36
weight p.Form = 34
weight p.Op = 2
weight p.Body = 11
weight p.OptDistinct = 1
weight p.List = 9
weight p.ItemTail = 1
weight p.Item = 7
weight p.Value = 5
weight p.Counted = 5
weight p.OptAs = 1
weight p.Column = 3
weight p.ColumnTail = 1
weight p.Rest = 17
weight p.OptSource = 1
weight p.OptThird = 1
weight p.OptFourth = 1
weight p.Source = 12
weight p.SourceTail = 9
weight p.OptAlias = 3
weight p.Alias = 2
weight p.OptWindow = 6
weight p.Window = 5
weight p.Frame = 2
weight p.Span = 2
weight p.OptSlide = 1
weight p.Last = 2
weight p.Columns = 6
weight p.ColumnsTail = 1
weight p.OptWhere = 1
weight p.Or = 18
weight p.OrTail = 1
weight p.And = 16
weight p.AndTail = 1
weight p.Not = 14
weight p.Operand = 5
weight p.Compare = 2
weight p.OptGroup = 1
weight p.End = 1

unfoldable pub weights : List Symbol → ℕ
weights [] = 0
weights (Read role ∷ xs) = 1 + weights xs
weights (Emit mark ∷ xs) = 1 + weights xs
weights (Rule part ∷ xs) = weight part + weights xs

-- how many tokens there are
unfoldable pub count : Scan → ℕ
count (End place) = 0
count (Bad place) = 0
count (Then t more) = 1 + count more

-- the query of these tokens, or the first fault
unfoldable pub parsed : Scan → Result Draft Fault
parsed tokens = run (64 * (count tokens + 2)) whole start tokens

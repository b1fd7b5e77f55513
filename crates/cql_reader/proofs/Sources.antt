-- How many sources a query has.
use Rattle.std.proofs.Common.{◌≡◌, ℕ, ◌+◌, ◌≤◌, Bool, true, ◌&&◌, nat_le, List, [], ◌∷◌, ◌++◌, length, refl, ap, arith}
use Rattle.std.proofs.lemmas.List.{length-append}
use Rattle.std.proofs.lemmas.Bool.{and_parts, leb-true}
use Rattle.cql_reader.specs.declared.symbols.Part.{Part}
use Rattle.cql_reader.specs.declared.symbols.Part.TheVariants as p
use Rattle.cql_reader.specs.declared.symbols.Role.{Role}
use Rattle.cql_reader.specs.declared.symbols.Role.TheVariants as r
use Rattle.cql_reader.specs.declared.symbols.Mark.{Mark}
use Rattle.cql_reader.specs.declared.symbols.Mark.TheVariants as m
use Rattle.cql_reader.specs.declared.symbols.Symbol.{Symbol}
use Rattle.cql_reader.specs.declared.symbols.Symbol.TheVariants.{Read, Rule, Emit}
use Rattle.cql_reader.specs.Tokens.{Token}
use Rattle.cql_reader.specs.Grammar.{alternatives, Among, Draft, Level, took, did, Derives, nothing, read, emit, rule, IsQuery}
use Rattle.cql_reader.proofs.Checked.{each, each_at}

-- the fewest sources that a part brings
unfoldable least_brought : Part → ℕ
least_brought p.Query = 1
least_brought p.Form = 1
least_brought p.Op = 0
least_brought p.Body = 0
least_brought p.OptDistinct = 0
least_brought p.List = 0
least_brought p.ItemTail = 0
least_brought p.Item = 0
least_brought p.Value = 0
least_brought p.Counted = 0
least_brought p.OptAs = 0
least_brought p.Column = 0
least_brought p.ColumnTail = 0
least_brought p.Rest = 1
least_brought p.OptSource = 0
least_brought p.OptThird = 0
least_brought p.OptFourth = 0
least_brought p.Source = 1
least_brought p.SourceTail = 0
least_brought p.OptAlias = 0
least_brought p.Alias = 0
least_brought p.OptWindow = 0
least_brought p.Window = 0
least_brought p.Frame = 0
least_brought p.Span = 0
least_brought p.OptSlide = 0
least_brought p.Last = 0
least_brought p.Columns = 0
least_brought p.ColumnsTail = 0
least_brought p.OptWhere = 0
least_brought p.Or = 0
least_brought p.OrTail = 0
least_brought p.And = 0
least_brought p.AndTail = 0
least_brought p.Not = 0
least_brought p.Operand = 0
least_brought p.Compare = 0
least_brought p.OptGroup = 0
least_brought p.End = 0

-- the most
unfoldable most_brought : Part → ℕ
most_brought p.Query = 4
most_brought p.Form = 4
most_brought p.Op = 0
most_brought p.Body = 0
most_brought p.OptDistinct = 0
most_brought p.List = 0
most_brought p.ItemTail = 0
most_brought p.Item = 0
most_brought p.Value = 0
most_brought p.Counted = 0
most_brought p.OptAs = 0
most_brought p.Column = 0
most_brought p.ColumnTail = 0
most_brought p.Rest = 4
most_brought p.OptSource = 3
most_brought p.OptThird = 2
most_brought p.OptFourth = 1
most_brought p.Source = 1
most_brought p.SourceTail = 0
most_brought p.OptAlias = 0
most_brought p.Alias = 0
most_brought p.OptWindow = 0
most_brought p.Window = 0
most_brought p.Frame = 0
most_brought p.Span = 0
most_brought p.OptSlide = 0
most_brought p.Last = 0
most_brought p.Columns = 0
most_brought p.ColumnsTail = 0
most_brought p.OptWhere = 0
most_brought p.Or = 0
most_brought p.OrTail = 0
most_brought p.And = 0
most_brought p.AndTail = 0
most_brought p.Not = 0
most_brought p.Operand = 0
most_brought p.Compare = 0
most_brought p.OptGroup = 0
most_brought p.End = 0

abbrev brings : Mark → ℕ
brings m.Column = 0
brings m.CountAll = 0
brings (m.Of a) = 0
brings m.Listed = 0
brings m.Grouped = 0
brings m.Source = 1
brings m.Named = 0
brings m.Compared = 0
brings m.Negate = 0
brings m.Conjoin = 0
brings m.Disjoin = 0
brings m.Leave = 0

-- how many the symbols bring, where a part brings so many
unfoldable brought : (Part → ℕ) → List Symbol → ℕ
brought by [] = 0
brought by (Read role ∷ xs) = brought by xs
brought by (Rule part ∷ xs) = by part + brought by xs
brought by (Emit mark ∷ xs) = brings mark + brought by xs

brought-append : (by : Part → ℕ) (xs ys : List Symbol) → brought by (xs ++ ys) ≡ brought by xs + brought by ys
unfolding brought
brought-append by [] ys = omega arith
brought-append by (Read role ∷ xs) ys = brought-append by xs ys
brought-append by (Rule part ∷ xs) ys = let h = brought-append by xs ys in omega (arith, h)
brought-append by (Emit mark ∷ xs) ys = let h = brought-append by xs ys in omega (arith, h)

-- an alternative brings no fewer and no more than its part
bounded : Part → List Symbol → Bool
bounded part ys = nat_le (least_brought part) (brought least_brought ys) && nat_le (brought most_brought ys) (most_brought part)

brought_checked : (part : Part) → each (bounded part) (alternatives part) ≡ true
unfolding each bounded brought least_brought most_brought alternatives
brought_checked p.Query = refl
brought_checked p.Form = refl
brought_checked p.Op = refl
brought_checked p.Body = refl
brought_checked p.OptDistinct = refl
brought_checked p.List = refl
brought_checked p.ItemTail = refl
brought_checked p.Item = refl
brought_checked p.Value = refl
brought_checked p.Counted = refl
brought_checked p.OptAs = refl
brought_checked p.Column = refl
brought_checked p.ColumnTail = refl
brought_checked p.Rest = refl
brought_checked p.OptSource = refl
brought_checked p.OptThird = refl
brought_checked p.OptFourth = refl
brought_checked p.Source = refl
brought_checked p.SourceTail = refl
brought_checked p.OptAlias = refl
brought_checked p.Alias = refl
brought_checked p.OptWindow = refl
brought_checked p.Window = refl
brought_checked p.Frame = refl
brought_checked p.Span = refl
brought_checked p.OptSlide = refl
brought_checked p.Last = refl
brought_checked p.Columns = refl
brought_checked p.ColumnsTail = refl
brought_checked p.OptWhere = refl
brought_checked p.Or = refl
brought_checked p.OrTail = refl
brought_checked p.And = refl
brought_checked p.AndTail = refl
brought_checked p.Not = refl
brought_checked p.Operand = refl
brought_checked p.Compare = refl
brought_checked p.OptGroup = refl
brought_checked p.End = refl

bounds : (part : Part) (ys : List Symbol) → Among ys (alternatives part) → (least_brought part ≤ brought least_brought ys) × (brought most_brought ys ≤ most_brought part)
unfolding bounded
bounds part ys a =
    let both = and_parts (nat_le (least_brought part) (brought least_brought ys)) (nat_le (brought most_brought ys) (most_brought part)) (each_at (bounded part) (alternatives part) ys (brought_checked part) a) in
    (leb-true (least_brought part) (brought least_brought ys) both.0, leb-true (brought most_brought ys) (most_brought part) both.1)

took-sources : (role : Role) (bytes : List ℕ) (d : Draft) → (took role bytes d).sources ≡ d.sources
unfolding took
took-sources (r.Fixed kind) bytes d = refl
took-sources (r.Operator operator) bytes d = refl
took-sources r.Distinct bytes d = refl
took-sources r.Column bytes d = refl
took-sources r.Qualified bytes d = refl
took-sources r.Stream bytes d = refl
took-sources r.Alias bytes d = refl
took-sources r.Now bytes d = refl
took-sources r.Range bytes d = refl
took-sources r.Slide bytes d = refl
took-sources r.Unbounded bytes d = refl
took-sources r.Rows bytes d = refl
took-sources r.Partition bytes d = refl
took-sources r.Number bytes d = refl
took-sources (r.Compare how) bytes d = refl
took-sources (r.Deeper kind) bytes d = refl

did-sources : (mark : Mark) (d : Draft) → length (did mark d).sources ≡ length d.sources + brings mark
unfolding did
did-sources m.Column d = omega arith
did-sources m.CountAll d = omega arith
did-sources (m.Of a) d = omega arith
did-sources m.Listed d = omega arith
did-sources m.Grouped d = omega arith
did-sources m.Source d = length-append d.sources (d.source ∷ [])
did-sources m.Named d = omega arith
did-sources m.Compared d = omega arith
did-sources m.Negate d = omega arith
did-sources m.Conjoin d = omega arith
did-sources m.Disjoin d = omega arith
did-sources m.Leave d = omega arith

-- a derivation brings as many sources as its symbols
derived_sources : {level : Level} {xs : List Symbol} {d : Draft} {ts : List Token} {d' : Draft} → Derives level xs d ts d'
    → (length d.sources + brought least_brought xs ≤ length d'.sources) × (length d'.sources ≤ length d.sources + brought most_brought xs)
unfolding brought
derived_sources {d = d} nothing = (omega arith, omega arith)
derived_sources (read {role = role} {xs = xs} {d = d} {t = t} e a rest) =
    let h = derived_sources rest in
    let s : length (took role t.bytes d).sources ≡ length d.sources = ap length (took-sources role t.bytes d) in
    (omega (arith, h.0, s), omega (arith, h.1, s))
derived_sources (emit {mark = mark} {xs = xs} {d = d} rest) =
    let h = derived_sources rest in
    let s = did-sources mark d in
    (omega (arith, h.0, s), omega (arith, h.1, s))
derived_sources (rule {part = part} {xs = xs} {d = d} ys among rest) =
    let h = derived_sources rest in
    let b = bounds part ys among in
    (omega (arith, h.0, b.0, brought-append least_brought ys xs), omega (arith, h.1, b.1, brought-append most_brought ys xs))

-- a query has one to four sources
pub query_sources : (level : Level) (ts : List Token) (d : Draft) → IsQuery level ts d → (1 ≤ length d.sources) × (length d.sources ≤ 4)
unfolding brought least_brought most_brought
query_sources level ts d q = let h = derived_sources q in (omega (arith, h.0), omega (arith, h.1))

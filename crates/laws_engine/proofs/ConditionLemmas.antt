-- The condition of a text that is read needs few truths: each ( and Not that is open adds two, and the text itself has three.
use Rattle.std.proofs.Common.{◌≡◌, ℕ, ◌+◌, ◌-◌, ◌*◌, ◌<◌, ◌≤◌, max, true, Option, Some, None, Result, Ok, List, [], ◌∷◌, ◌++◌, refl, sym, ap, ap₂, subst, inl, inr, arith}
use Rattle.std.specs.List.{AllByRecursion}
use Rattle.std.specs.Option.{option_map}
use Rattle.std.proofs.lemmas.Bool.{and_parts, ltb-true}
use Rattle.values.specs.Condition as meant
use Rattle.values.specs.declared.resolved.Compare.{Compare}
use Rattle.cql_reader.specs.declared.symbols.Part.{Part}
use Rattle.cql_reader.specs.declared.symbols.Part.TheVariants as p
use Rattle.cql_reader.specs.declared.symbols.Role.{Role}
use Rattle.cql_reader.specs.declared.symbols.Role.TheVariants as r
use Rattle.cql_reader.specs.declared.symbols.Mark.{Mark}
use Rattle.cql_reader.specs.declared.symbols.Mark.TheVariants as m
use Rattle.cql_reader.specs.declared.symbols.Symbol.{Symbol}
use Rattle.cql_reader.specs.declared.symbols.Symbol.TheVariants.{Read, Rule, Emit}
use Rattle.cql_reader.specs.Lexis.{number_of}
use Rattle.cql_reader.specs.Tokens.{Token}
use Rattle.cql_reader.specs.Fault.{Fault}
use Rattle.cql_reader.specs.Query.{Query, WrittenCondition, Compared, Not, And, Or, WrittenOperand}
use Rattle.cql_reader.specs.Grammar.{Among, Draft, Strict, alternatives, allowed, deepens, did, in_range, last_standing, may_open, negated, conjoined, disjoined, took, Derives, nothing, read, emit, rule}
use Rattle.cql_reader.specs.Reading.{IsAnswer}
use Rattle.cql_reader.specs.Judging.{reading}
use Rattle.cql_reader.proofs.OneAnswer.{reading_right}
use Rattle.names.specs.Matches.{Table}
use Rattle.names.specs.Resolved.{condition_of}
use Rattle.row_nodes.specs.Steps.{truths_needed}

-- THE TRUTHS that wait at a time, in the words of the text
abbrev pub needed : WrittenCondition → ℕ
needed (Compared a how b) = 1
needed (Not c) = needed c
needed (And c d) = max (needed c) (needed d + 1)
needed (Or c d) = max (needed c) (needed d + 1)

needed_of : (ts : List Table) (c : WrittenCondition) → truths_needed (condition_of ts c) ≡ needed c
needed_of ts (Compared a how b) = refl
needed_of ts (Not c) = needed_of ts c
needed_of ts (And c d) = ap₂ (λ k n. max k (n + 1)) (needed_of ts c) (needed_of ts d)
needed_of ts (Or c d) = ap₂ (λ k n. max k (n + 1)) (needed_of ts c) (needed_of ts d)

-- WHAT IS LEFT OF A TEXT, with so many ( and Not open and these conditions standing: wherever it is read to its end, all conditions need few
abbrev AllFew : List WrittenCondition → Type 0
AllFew cs = AllByRecursion (λ c. needed c ≤ 67) cs

-- what a part makes of that, of which `Goes` says that the rest may be read from there
abbrev Whole : (ℕ → List WrittenCondition → Type 0) → ℕ → List WrittenCondition → Type 0
Whole Goes depth cs = (depth ≡ 0) × AllFew cs × ((ds : List WrittenCondition) → AllFew ds → Goes depth ds)

-- it leaves one condition more, for which there is room
abbrev One : ℕ → (ℕ → List WrittenCondition → Type 0) → ℕ → List WrittenCondition → Type 0
One room Goes depth cs = (depth ≤ 32) × ((c : WrittenCondition) → needed c + 2 * depth ≤ room → Goes depth (c ∷ cs))

-- it makes another of the one that stands last
abbrev Longer : ℕ → (ℕ → List WrittenCondition → Type 0) → ℕ → List WrittenCondition → Type 0
Longer room Goes depth [] = ⊥
Longer room Goes depth (a ∷ cs) = (depth ≤ 32) × (needed a + 2 * depth ≤ room) × ((c : WrittenCondition) → needed c + 2 * depth ≤ room → Goes depth (c ∷ cs))

abbrev AtPart : Part → (ℕ → List WrittenCondition → Type 0) → ℕ → List WrittenCondition → Type 0
AtPart p.Query Goes depth cs = Whole Goes depth cs
AtPart p.Form Goes depth cs = Whole Goes depth cs
AtPart p.Op Goes depth cs = Goes depth cs
AtPart p.Body Goes depth cs = Goes depth cs
AtPart p.OptDistinct Goes depth cs = Goes depth cs
AtPart p.List Goes depth cs = Goes depth cs
AtPart p.ItemTail Goes depth cs = Goes depth cs
AtPart p.Item Goes depth cs = Goes depth cs
AtPart p.Value Goes depth cs = Goes depth cs
AtPart p.Counted Goes depth cs = Goes depth cs
AtPart p.OptAs Goes depth cs = Goes depth cs
AtPart p.Column Goes depth cs = Goes depth cs
AtPart p.ColumnTail Goes depth cs = Goes depth cs
AtPart p.Rest Goes depth cs = Whole Goes depth cs
AtPart p.OptSource Goes depth cs = Goes depth cs
AtPart p.OptThird Goes depth cs = Goes depth cs
AtPart p.OptFourth Goes depth cs = Goes depth cs
AtPart p.Source Goes depth cs = Goes depth cs
AtPart p.SourceTail Goes depth cs = Goes depth cs
AtPart p.OptAlias Goes depth cs = Goes depth cs
AtPart p.Alias Goes depth cs = Goes depth cs
AtPart p.OptWindow Goes depth cs = Goes depth cs
AtPart p.Window Goes depth cs = Goes depth cs
AtPart p.Frame Goes depth cs = Goes depth cs
AtPart p.Span Goes depth cs = Goes depth cs
AtPart p.OptSlide Goes depth cs = Goes depth cs
AtPart p.Last Goes depth cs = Goes depth cs
AtPart p.Columns Goes depth cs = Goes depth cs
AtPart p.ColumnsTail Goes depth cs = Goes depth cs
AtPart p.OptWhere Goes depth cs = Whole Goes depth cs
AtPart p.Or Goes depth cs = One 67 Goes depth cs
AtPart p.OrTail Goes depth cs = Longer 67 Goes depth cs
AtPart p.And Goes depth cs = One 66 Goes depth cs
AtPart p.AndTail Goes depth cs = Longer 66 Goes depth cs
AtPart p.Not Goes depth cs = One 65 Goes depth cs
AtPart p.Operand Goes depth cs = Goes depth cs
AtPart p.Compare Goes depth cs = Goes depth cs
AtPart p.OptGroup Goes depth cs = Goes depth cs
AtPart p.End Goes depth cs = Goes depth cs

-- a token: ( and Not open one more, if 32 are not open already
abbrev AtToken : Role → (ℕ → List WrittenCondition → Type 0) → ℕ → List WrittenCondition → Type 0
AtToken (r.Fixed kind) Goes depth cs = Goes depth cs
AtToken (r.Operator operator) Goes depth cs = Goes depth cs
AtToken r.Distinct Goes depth cs = Goes depth cs
AtToken r.Column Goes depth cs = Goes depth cs
AtToken r.Qualified Goes depth cs = Goes depth cs
AtToken r.Stream Goes depth cs = Goes depth cs
AtToken r.Alias Goes depth cs = Goes depth cs
AtToken r.Now Goes depth cs = Goes depth cs
AtToken r.Range Goes depth cs = Goes depth cs
AtToken r.Slide Goes depth cs = Goes depth cs
AtToken r.Unbounded Goes depth cs = Goes depth cs
AtToken r.Rows Goes depth cs = Goes depth cs
AtToken r.Partition Goes depth cs = Goes depth cs
AtToken r.Number Goes depth cs = Goes depth cs
AtToken (r.Compare how) Goes depth cs = Goes depth cs
AtToken (r.Deeper kind) Goes depth cs = depth < 32 → Goes (depth + 1) cs

-- what is done between tokens
abbrev AtMark : Mark → (ℕ → List WrittenCondition → Type 0) → ℕ → List WrittenCondition → Type 0
AtMark m.Column Goes depth cs = Goes depth cs
AtMark m.CountAll Goes depth cs = Goes depth cs
AtMark (m.Of a) Goes depth cs = Goes depth cs
AtMark m.Listed Goes depth cs = Goes depth cs
AtMark m.Grouped Goes depth cs = Goes depth cs
AtMark m.Source Goes depth cs = Goes depth cs
AtMark m.Named Goes depth cs = Goes depth cs
AtMark m.Compared Goes depth cs = (a : WrittenOperand) (how : Compare) (b : WrittenOperand) → Goes depth (Compared a how b ∷ cs)
AtMark m.Negate Goes depth cs = Goes depth (negated cs)
AtMark m.Conjoin Goes depth cs = Goes depth (conjoined cs)
AtMark m.Disjoin Goes depth cs = Goes depth (disjoined cs)
AtMark m.Leave Goes depth cs = Goes (depth - 1) cs

abbrev Goes : List Symbol → ℕ → List WrittenCondition → Type 0
Goes [] depth cs = AllFew cs
Goes (Read role ∷ xs) depth cs = AtToken role (Goes xs) depth cs
Goes (Rule part ∷ xs) depth cs = AtPart part (Goes xs) depth cs
Goes (Emit mark ∷ xs) depth cs = AtMark mark (Goes xs) depth cs

left_one : (depth : ℕ) → depth + 1 - 1 ≡ depth
left_one depth = omega arith

-- so it goes on by each alternative of a part
by_each : (part : Part) (xs : List Symbol) (depth : ℕ) (cs : List WrittenCondition) → AtPart part (Goes xs) depth cs → AllByRecursion (λ ys. Goes (ys ++ xs) depth cs) (alternatives part)
unfolding alternatives
by_each p.Query xs depth cs h = (h, tt)
by_each p.Form xs depth cs h = (h, (h, tt))
by_each p.Op xs depth cs h = (h, (h, (h, tt)))
by_each p.Body xs depth cs h = (h, tt)
by_each p.OptDistinct xs depth cs h = (h, (h, tt))
by_each p.List xs depth cs h = (h, (h, tt))
by_each p.ItemTail xs depth cs h = (h, (h, tt))
by_each p.Item xs depth cs h = (h, tt)
by_each p.Value xs depth cs h = (h, (h, (h, (h, (h, tt)))))
by_each p.Counted xs depth cs h = (h, (h, tt))
by_each p.OptAs xs depth cs h = (h, (h, tt))
by_each p.Column xs depth cs h = (h, tt)
by_each p.ColumnTail xs depth cs h = (h, (h, tt))
by_each p.Rest xs depth cs h = (h, tt)
by_each p.OptSource xs depth cs h = (h, (h, tt))
by_each p.OptThird xs depth cs h = (h, (h, tt))
by_each p.OptFourth xs depth cs h = (h, (h, tt))
by_each p.Source xs depth cs h = (h, tt)
by_each p.SourceTail xs depth cs h = (h, (h, (h, tt)))
by_each p.OptAlias xs depth cs h = (h, (h, tt))
by_each p.Alias xs depth cs h = (h, (h, tt))
by_each p.OptWindow xs depth cs h = (h, (h, tt))
by_each p.Window xs depth cs h = (h, tt)
by_each p.Frame xs depth cs h = (h, (h, (h, (h, tt))))
by_each p.Span xs depth cs h = (h, (h, tt))
by_each p.OptSlide xs depth cs h = (h, (h, tt))
by_each p.Last xs depth cs h = (h, (h, tt))
by_each p.Columns xs depth cs h = (h, tt)
by_each p.ColumnsTail xs depth cs h = (h, (h, tt))
by_each p.OptWhere xs depth cs h = ((omega (arith, h.0), λ c l. h.2 (c ∷ cs) (omega (arith, l), h.1)), (h.2 cs h.1, tt))
by_each p.Or xs depth cs h = ((h.0, λ c l. (h.0, omega (arith, l), h.1)), tt)
by_each p.OrTail xs depth [] h = absurd h
by_each p.OrTail xs depth (a ∷ cs) h = ((h.0, λ c l. (h.0, omega (arith, l, h.1), h.2)), (h.2 a h.1, tt))
by_each p.And xs depth cs h = ((h.0, λ c l. (h.0, omega (arith, l), h.1)), tt)
by_each p.AndTail xs depth [] h = absurd h
by_each p.AndTail xs depth (a ∷ cs) h = ((h.0, λ c l. (h.0, omega (arith, l, h.1), h.2)), (h.2 a h.1, tt))
by_each p.Not xs depth cs h = (
  λ deeper. (omega (arith, deeper), λ c l. subst (λ n. Goes xs n (Not c ∷ cs)) (sym (left_one depth)) (h.1 (Not c) (omega (arith, l)))),
  (
    λ deeper. (omega (arith, deeper), λ c l. subst (λ n. Goes xs n (c ∷ cs)) (sym (left_one depth)) (h.1 c (omega (arith, l)))),
    (λ a how b. h.1 (Compared a how b) (omega (arith, h.0)), tt),
  ),
)
by_each p.Operand xs depth cs h = (h, (h, tt))
by_each p.Compare xs depth cs h = (h, (h, (h, (h, (h, (h, tt))))))
by_each p.OptGroup xs depth cs h = (h, (h, tt))
by_each p.End xs depth cs h = (h, (h, tt))

of_each : {A : Type 0} (P : A → Type 0) (x : A) (xs : List A) → AllByRecursion P xs → Among x xs → P x
of_each P x [] h a = absurd a
of_each P x (y ∷ ys) h (inl e) = subst P (sym e) h.0
of_each P x (y ∷ ys) h (inr a) = of_each P x ys h.1 a

by_token : (xs : List Symbol) (role : Role) (bytes : List ℕ) (d : Draft) → may_open role d.depth ≡ true → AtToken role (Goes xs) d.depth d.terms.standing
    → Goes xs (took role bytes d).depth (took role bytes d).terms.standing
unfolding took deepens
by_token xs (r.Fixed kind) bytes d e h = h
by_token xs (r.Operator operator) bytes d e h = h
by_token xs r.Distinct bytes d e h = h
by_token xs r.Column bytes d e h = h
by_token xs r.Qualified bytes d e h = h
by_token xs r.Stream bytes d e h = h
by_token xs r.Alias bytes d e h = h
by_token xs r.Now bytes d e h = h
by_token xs r.Range bytes d e h = h
by_token xs r.Slide bytes d e h = h
by_token xs r.Unbounded bytes d e h = h
by_token xs r.Rows bytes d e h = h
by_token xs r.Partition bytes d e h = h
by_token xs r.Number bytes d e h = h
by_token xs (r.Compare how) bytes d e h = h
by_token xs (r.Deeper kind) bytes d e h = h (ltb-true d.depth 32 e)

by_mark : (xs : List Symbol) (mark : Mark) (d : Draft) → AtMark mark (Goes xs) d.depth d.terms.standing → Goes xs (did mark d).depth (did mark d).terms.standing
unfolding did
by_mark xs m.Column d h = h
by_mark xs m.CountAll d h = h
by_mark xs (m.Of a) d h = h
by_mark xs m.Listed d h = h
by_mark xs m.Grouped d h = h
by_mark xs m.Source d h = h
by_mark xs m.Named d h = h
by_mark xs m.Compared d h = h d.terms.left d.terms.how d.terms.right
by_mark xs m.Negate d h = h
by_mark xs m.Conjoin d h = h
by_mark xs m.Disjoin d h = h
by_mark xs m.Leave d h = h

derived_few : {xs : List Symbol} {d : Draft} {ts : List Token} {d' : Draft} → Derives Strict xs d ts d' → Goes xs d.depth d.terms.standing → AllFew d'.terms.standing
unfolding allowed
derived_few nothing g = g
derived_few (read {role = role} {xs = xs} {d = d} {t = t} e a rest) g =
    derived_few rest (by_token xs role t.bytes d (and_parts (in_range role (number_of t.bytes)) (may_open role d.depth) a).1 g)
derived_few (emit {mark = mark} {xs = xs} {d = d} rest) g = derived_few rest (by_mark xs mark d g)
derived_few (rule {part = part} {xs = xs} {d = d} ys among rest) g =
    derived_few rest (of_each (λ zs. Goes (zs ++ xs) d.depth d.terms.standing) ys (alternatives part) (by_each part xs d.depth d.terms.standing g) among)

-- THE CONDITION that is read
abbrev pub IsFew : Option WrittenCondition → Type 0
IsFew None = Unit {0}
IsFew (Some c) = needed c ≤ 67

last_few : (cs : List WrittenCondition) → AllFew cs → IsFew (last_standing cs)
last_few [] h = tt
last_few (c ∷ cs) h = h.0

pub read_few : (text : List ℕ) (q : Query) → reading text ≡ Ok q → IsFew q.condition
read_few text q e =
    let right : IsAnswer text (Ok q) = subst (λ (v : Result Query Fault). IsAnswer text v) e (reading_right text) in
    let d : Draft = right.1.draft in
    let few : AllFew d.terms.standing = derived_few right.1.derived (refl, tt, λ ds h. h) in
    subst (λ (z : Query). IsFew z.condition) (sym right.1.built) (last_few d.terms.standing few)

pub resolved_few : (ts : List Table) (o : Option WrittenCondition) → IsFew o → (c : meant.Condition) → option_map (condition_of ts) o ≡ Some c → truths_needed c ≤ 67
resolved_few ts None h c e = absurd (cc)
resolved_few ts (Some d) h c e =
    let is : condition_of ts d ≡ c = cc in
    omega (arith, h, needed_of ts d, ap truths_needed is)

-- A query that is read is well formed.
use Rattle.std.proofs.Common.{◌≡◌, refl, ℕ, zero, suc, ◌<◌, ◌≤◌, Bool, true, not, ◌&&◌, nat_lt, int_lt, ℤ, pos, negsuc, nat_abs, List, [], ◌∷◌, ◌++◌, Result, Ok, sym, ap, ◌∙◌, inl, inr, subst, arith, All as Each'}
use Rattle.std.proofs.lemmas.Bool.{and_parts, ltb-true, lt-ltb, cases_lt, false≢true}
use Rattle.std.proofs.lemmas.Int.{ints}
use Rattle.values.specs.Moving.{HasStep}
use Rattle.values.specs.Ranges.{IsStreamNumber}
use Rattle.values.specs.declared.reach.Reach.{Reach}
use Rattle.values.specs.declared.reach.Reach.TheVariants as reach
use Rattle.cql_reader.specs.declared.symbols.Role.{Role}
use Rattle.cql_reader.specs.declared.symbols.Role.TheVariants as r
use Rattle.cql_reader.specs.declared.symbols.Mark.{Mark}
use Rattle.cql_reader.specs.declared.symbols.Mark.TheVariants as m
use Rattle.cql_reader.specs.declared.symbols.Symbol.{Symbol}
use Rattle.cql_reader.specs.Lexis.{number_of}
use Rattle.cql_reader.specs.Tokens.{Token}
use Rattle.cql_reader.specs.Fault.{Fault}
use Rattle.cql_reader.specs.Query.{Query, WrittenSource, WrittenEntry, Reference, WrittenWindow, Instants, Rows, Partition, WrittenCondition}
use Rattle.cql_reader.specs.Grammar.{Draft, Strict, in_span, in_step, in_rows, in_stream, in_range, may_open, allowed, took, did, listed, last_standing, partitioned, slid_reach, sliding, negated, conjoined, disjoined, Derives, nothing, read, emit, rule}
use Rattle.cql_reader.specs.Reading.{IsAnswer}
use Rattle.cql_reader.specs.Judging.{reading}
use Rattle.cql_reader.specs.WellFormed.{HasItems, IsInRange, IsRowCount, IsGoodWindow, IsGoodOperand, IsGoodCondition, IsGoodWhere, IsWellFormed}
use Rattle.cql_reader.proofs.OneAnswer.{reading_right}
use Rattle.cql_reader.proofs.Sources.{query_sources}

-- Numbers in range.

span_bound : (z : ℤ) → in_span z ≡ true → nat_abs z ≤ 1099511627776
span_bound (pos n) h = let l : n < 1099511627777 = ltb-true n 1099511627777 (and_parts (not (int_lt (pos n) (pos 0))) (nat_lt n 1099511627777) h).1 in omega arith
span_bound (negsuc n) h = absurd (false≢true h)

not_below_one : (n : ℕ) → not (nat_lt n 1) ≡ true → 1 ≤ n
not_below_one zero h = absurd (false≢true h)
not_below_one (suc n) h = omega arith

step_bound : (z : ℤ) → in_step z ≡ true → (1 ≤ nat_abs z) × (nat_abs z ≤ 1099511627776)
step_bound (pos n) h =
    let both = and_parts (not (nat_lt n 1)) (nat_lt n 1099511627777) h in
    let l : n < 1099511627777 = ltb-true n 1099511627777 both.1 in
    (not_below_one n both.0, omega arith)
step_bound (negsuc n) h = absurd (false≢true h)

rows_bound : (z : ℤ) → in_rows z ≡ true → IsRowCount (nat_abs z)
rows_bound (pos n) h =
    let both = and_parts (not (nat_lt n 1)) (nat_lt n 65537) h in
    let l : n < 65537 = ltb-true n 65537 both.1 in
    (not_below_one n both.0, omega arith)
rows_bound (negsuc n) h = absurd (false≢true h)

not_above : (n : ℕ) → not (nat_lt 1099511627774 n) && true ≡ true → n ≤ 1099511627774
not_above n h = elim (cases_lt 1099511627774 n) [
  | inl l ↦ absurd (false≢true (sym (ap (λ (b : Bool). not b && true) (lt-ltb 1099511627774 n l)) ∙ h))
  | inr g ↦ g
]

stream_bound : (z : ℤ) → in_stream z ≡ true → IsStreamNumber z
stream_bound (pos n) h =
    let l : n < 1099511627776 = ltb-true n 1099511627776 (and_parts (not (int_lt (pos n) (negsuc 1099511627774))) (nat_lt n 1099511627776) h).1 in
    (omega (arith, ints), omega (arith, ints))
stream_bound (negsuc n) h = let l = not_above n h in (omega (arith, ints), omega (arith, ints))

-- What is read is good.

abbrev EachGood : List WrittenSource → Type 0
EachGood [] = Unit {0}
EachGood (s ∷ ss) = IsGoodWindow s.window × EachGood ss

good_append : (ss : List WrittenSource) (s : WrittenSource) → EachGood ss → IsGoodWindow s.window → EachGood (ss ++ s ∷ [])
good_append [] s h g = (g, tt)
good_append (s' ∷ ss) s h g = (h.0, good_append ss s h.1 g)

each_good : (ss : List WrittenSource) → EachGood ss → Each' (λ s. IsGoodWindow s.window) ss
each_good [] h k d l = absurd (omega arith)
each_good (s ∷ ss) h zero d l = h.0
each_good (s ∷ ss) h (suc k) d l = each_good ss h.1 k d (omega arith)

abbrev EachStands : List WrittenCondition → Type 0
EachStands [] = Unit {0}
EachStands (a ∷ as') = IsGoodCondition a × EachStands as'

good_negated : (as' : List WrittenCondition) → EachStands as' → EachStands (negated as')
good_negated [] h = h
good_negated (a ∷ as') h = h

good_conjoined : (as' : List WrittenCondition) → EachStands as' → EachStands (conjoined as')
good_conjoined [] h = h
good_conjoined (b ∷ []) h = h
good_conjoined (b ∷ a ∷ as') h = ((h.1.0, h.0), h.1.1)

good_disjoined : (as' : List WrittenCondition) → EachStands as' → EachStands (disjoined as')
good_disjoined [] h = h
good_disjoined (b ∷ []) h = h
good_disjoined (b ∷ a ∷ as') h = ((h.1.0, h.0), h.1.1)

good_parted : (columns : List Reference) (rows : ℕ) (window : WrittenWindow) → IsRowCount rows → IsGoodWindow window → IsGoodWindow (partitioned columns rows window)
good_parted [] rows window h g = g
good_parted (column ∷ columns) rows window h g = (omega arith, h)

good_slid_reach : (step : ℕ) (r : Reach) → (1 ≤ step) × (step ≤ 1099511627776) → HasStep r × IsInRange r → HasStep (slid_reach step r) × IsInRange (slid_reach step r)
good_slid_reach step reach.All h g = g
good_slid_reach step (reach.Last instants) h g = (omega (arith, h.0), (g.1, h.1))
good_slid_reach step (reach.Steps instants other) h g = g

good_slid : (step : ℕ) (window : WrittenWindow) → (1 ≤ step) × (step ≤ 1099511627776) → IsGoodWindow window → IsGoodWindow (sliding step window)
good_slid step (Instants r) h g = good_slid_reach step r h g
good_slid step (Rows rows) h g = g
good_slid step (Partition by rows) h g = g

-- what is read so far is within its ranges
abbrev Good : Draft → Type 0
Good d = IsGoodWindow d.source.window × EachGood d.sources × IsGoodOperand d.terms.left × IsGoodOperand d.terms.right × EachStands d.terms.standing

good_took : (role : Role) (bytes : List ℕ) (d : Draft) → in_range role (number_of bytes) ≡ true → Good d → Good (took role bytes d)
unfolding took in_range
good_took (r.Fixed kind) bytes d h s = s
good_took (r.Operator operator) bytes d h s = s
good_took r.Distinct bytes d h s = s
good_took r.Column bytes d h s = s
good_took r.Qualified bytes d h s = s
good_took r.Stream bytes d h s = ((tt, tt), s.1, s.2, s.3, s.4)
good_took r.Alias bytes d h s = s
good_took r.Now bytes d h s = ((tt, omega arith), s.1, s.2, s.3, s.4)
good_took r.Range bytes d h s = ((tt, span_bound (number_of bytes) h), s.1, s.2, s.3, s.4)
good_took r.Slide bytes d h s = (good_slid (nat_abs (number_of bytes)) d.source.window (step_bound (number_of bytes) h) s.0, s.1, s.2, s.3, s.4)
good_took r.Unbounded bytes d h s = ((tt, tt), s.1, s.2, s.3, s.4)
good_took r.Rows bytes d h s = (rows_bound (number_of bytes) h, s.1, s.2, s.3, s.4)
good_took r.Partition bytes d h s = (good_parted d.columns (nat_abs (number_of bytes)) d.source.window (rows_bound (number_of bytes) h) s.0, s.1, s.2, s.3, s.4)
good_took r.Number bytes d h s = (s.0, s.1, s.3, stream_bound (number_of bytes) h, s.4)
good_took (r.Compare how) bytes d h s = s
good_took (r.Deeper kind) bytes d h s = s

good_did : (mark : Mark) (d : Draft) → Good d → Good (did mark d)
unfolding did
good_did m.Column d s = s
good_did m.CountAll d s = s
good_did (m.Of a) d s = s
good_did m.Listed d s = s
good_did m.Grouped d s = s
good_did m.Source d s = ((tt, tt), good_append d.sources d.source s.1 s.0, s.2, s.3, s.4)
good_did m.Named d s = (s.0, s.1, s.3, tt, s.4)
good_did m.Compared d s = (s.0, s.1, s.2, s.3, ((s.2, s.3), s.4))
good_did m.Negate d s = (s.0, s.1, s.2, s.3, good_negated d.terms.standing s.4)
good_did m.Conjoin d s = (s.0, s.1, s.2, s.3, good_conjoined d.terms.standing s.4)
good_did m.Disjoin d s = (s.0, s.1, s.2, s.3, good_disjoined d.terms.standing s.4)
good_did m.Leave d s = s

good_derived : {xs : List Symbol} {d : Draft} {ts : List Token} {d' : Draft} → Derives Strict xs d ts d' → Good d → Good d'
unfolding allowed
good_derived nothing g = g
good_derived (read {role = role} {d = d} {t = t} e a rest) g =
    good_derived rest (good_took role t.bytes d (and_parts (in_range role (number_of t.bytes)) (may_open role d.depth) a).0 g)
good_derived (emit {mark = mark} {d = d} rest) g = good_derived rest (good_did mark d g)
good_derived (rule ys among rest) g = good_derived rest g

has_items : (entries : List WrittenEntry) → HasItems (listed entries)
has_items [] = tt
has_items (entry ∷ entries) = omega arith

good_where : (as' : List WrittenCondition) → EachStands as' → IsGoodWhere (last_standing as')
good_where [] h = tt
good_where (a ∷ as') h = h.0

pub well_formed : (text : List ℕ) (q : Query) → reading text ≡ Ok q → IsWellFormed q
well_formed text q e =
    let right : IsAnswer text (Ok q) = subst (λ (v : Result Query Fault). IsAnswer text v) e (reading_right text) in
    let d = right.1.draft in
    let zero_good : IsStreamNumber (pos 0) = stream_bound (pos 0) refl in
    let g : Good d = good_derived right.1.derived ((tt, tt), tt, zero_good, zero_good, tt) in
    let n = query_sources Strict right.1.tokens d right.1.derived in
    subst IsWellFormed (sym right.1.built) (record {
      items = has_items d.entries;
      some_source = n.0;
      few_sources = n.1;
      windows = each_good d.sources g.1;
      condition = good_where d.terms.standing g.4;
    })

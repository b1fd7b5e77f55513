-- The machine reads exactly what the grammar derives, and stops at the first token after which nothing does.
use Rattle.std.proofs.Common.{◌≡◌, ℕ, zero, suc, ◌+◌, ◌<◌, ◌≤◌, Bool, true, false, not, nat_lt, ◌&&◌, ◌||◌, List, [], ◌∷◌, ◌++◌, Option, Some, None, refl, ap, sym, ◌∙◌, ◌⊎◌, inl, inr, subst, ltb, arith, ◌↔◌, append_assoc, append-nil}
use Rattle.std.proofs.lemmas.Bool.{and_parts, or_cases, or_left, or_right, and_from, false≢true, cond-false, ltb-true}
use denote.Enum.Bare.{true_same}
use Rattle.cql_reader.specs.contracts.tokens.TokenKind.{the_type}
use Rattle.cql_reader.specs.declared.tokens.TokenKind.{TokenKind}
use Rattle.cql_reader.specs.declared.symbols.Role.{Role}
use Rattle.cql_reader.specs.declared.symbols.Role.TheVariants as r
use Rattle.cql_reader.specs.declared.symbols.Part.{Part}
use Rattle.cql_reader.specs.declared.symbols.Mark.{Mark}
use Rattle.cql_reader.specs.Lexis.{number_of, decimal}
use Rattle.cql_reader.specs.Tokens.{Token}
use Rattle.cql_reader.specs.declared.symbols.Symbol.{Symbol}
use Rattle.cql_reader.specs.declared.symbols.Symbol.TheVariants.{Read, Rule, Emit}
use Rattle.cql_reader.specs.Grammar.{alternatives, Among, Draft, Level, Shape, Ranged, Strict, allowed, kind_of, in_range, deepens, may_open, took, did, Derives, nothing, read, emit, rule, whole, start, Begins}
use Rattle.cql_reader.specs.Prediction.{has, first, nullable, firsts, ends, chosen, weight, weights}
use Rattle.cql_reader.proofs.Checked.{follow, CanStand, firsts_covered, ends_covered, fits, fits_at, choose, chosen_among, plain, plain_behind, plain_behind_at, least, least_at, light, light_at, kinds, at_each_kind, implied, implies, each}

-- What a derivation begins with.

firsts-append : (ys xs : List Symbol) (kind : TokenKind) → firsts (ys ++ xs) kind ≡ true → (firsts ys kind ≡ true) ⊎ ((ends ys ≡ true) × (firsts xs kind ≡ true))
unfolding firsts ends
firsts-append [] xs kind h = inr (refl, h)
firsts-append (Read role ∷ ys) xs kind h = inl h
firsts-append (Emit mark ∷ ys) xs kind h = firsts-append ys xs kind h
firsts-append (Rule q ∷ ys) xs kind h = elim (or_cases (has (first q) kind) (nullable q && firsts (ys ++ xs) kind) h) [
  | inl f ↦ inl (or_left (has (first q) kind) (nullable q && firsts ys kind) f)
  | inr b ↦ (let n = and_parts (nullable q) (firsts (ys ++ xs) kind) b in elim (firsts-append ys xs kind n.1) [
    | inl f ↦ inl (or_right (has (first q) kind) (nullable q && firsts ys kind) (and_from (nullable q) (firsts ys kind) n.0 f))
    | inr r ↦ inr (and_from (nullable q) (ends ys) n.0 r.0, r.1)
  ])
]

ends-append : (ys xs : List Symbol) → ends (ys ++ xs) ≡ true → (ends ys ≡ true) × (ends xs ≡ true)
unfolding ends
ends-append [] xs h = (refl, h)
ends-append (Read role ∷ ys) xs h = absurd (false≢true h)
ends-append (Emit mark ∷ ys) xs h = ends-append ys xs h
ends-append (Rule q ∷ ys) xs h =
    let n = and_parts (nullable q) (ends (ys ++ xs)) h in
    let r = ends-append ys xs n.1 in
    (and_from (nullable q) (ends ys) n.0 r.0, r.1)

firsts_of : {level : Level} {xs : List Symbol} {s : Draft} {t : Token} {ts : List Token} {s' : Draft} → Derives level xs s (t ∷ ts) s' → firsts xs t.kind ≡ true
unfolding firsts
firsts_of {t = t} (read {role = role} e a d) = true_same the_type (kind_of role) t.kind (sym e)
firsts_of (emit d) = firsts_of d
firsts_of {t = t} (rule {part = part} {xs = xs} ys a d) = elim (firsts-append ys xs t.kind (firsts_of d)) [
  | inl f ↦ or_left (has (first part) t.kind) (nullable part && firsts xs t.kind) (firsts_covered part ys a t.kind f)
  | inr r ↦ or_right (has (first part) t.kind) (nullable part && firsts xs t.kind) (and_from (nullable part) (firsts xs t.kind) (ends_covered part ys a r.0) r.1)
]

ends_of : {level : Level} {xs : List Symbol} {s : Draft} {s' : Draft} → Derives level xs s [] s' → ends xs ≡ true
unfolding ends
ends_of nothing = refl
ends_of (emit d) = ends_of d
ends_of (rule {part = part} {xs = xs} ys a d) =
    let r = ends-append ys xs (ends_of d) in
    and_from (nullable part) (ends xs) (ends_covered part ys a r.0) r.1

-- What stands below a part on the stack begins only with what can follow that part.
abbrev Fit : List Symbol → Type 0
Fit [] = Unit {0}
Fit (Read role ∷ xs) = Fit xs
Fit (Emit mark ∷ xs) = Fit xs
Fit (Rule q ∷ xs) = ((kind : TokenKind) → firsts xs kind ≡ true → has (follow q) kind ≡ true) × Fit xs

Fit-append : (part : Part) (ys xs : List Symbol) → fits part ys ≡ true → ((kind : TokenKind) → firsts xs kind ≡ true → has (follow part) kind ≡ true) → Fit xs → Fit (ys ++ xs)
unfolding fits
Fit-append part [] xs e below fit = fit
Fit-append part (Read role ∷ ys) xs e below fit = Fit-append part ys xs e below fit
Fit-append part (Emit mark ∷ ys) xs e below fit = Fit-append part ys xs e below fit
Fit-append part (Rule q ∷ ys) xs e below fit =
    let can : TokenKind → Bool = λ kind. firsts ys kind || (ends ys && has (follow part) kind) in
    let test : TokenKind → Bool = λ kind. implies (can kind) (has (follow q) kind) in
    let both = and_parts (each test kinds) (fits part ys) e in (
      λ kind h. elim (firsts-append ys xs kind h) [
        | inl f ↦ implied (can kind) (has (follow q) kind) (at_each_kind test both.0 kind) (or_left (firsts ys kind) (ends ys && has (follow part) kind) f)
        | inr r ↦ implied (can kind) (has (follow q) kind) (at_each_kind test both.0 kind) (or_right (firsts ys kind) (ends ys && has (follow part) kind) (and_from (ends ys) (has (follow part) kind) r.0 (below kind r.1)))
      ],
      Fit-append part ys xs both.1 below fit,
    )

plain-append : (ys xs : List Symbol) → plain ys ≡ true → plain xs ≡ true → plain (ys ++ xs) ≡ true
unfolding plain
plain-append [] xs h q = q
plain-append (Read role ∷ ys) xs h q =
    let both = and_parts (not (deepens role)) (plain ys) h in
    and_from (not (deepens role)) (plain (ys ++ xs)) both.0 (plain-append ys xs both.1 q)
plain-append (Emit mark ∷ ys) xs h q = plain-append ys xs h q
plain-append (Rule part ∷ ys) xs h q = plain-append ys xs h q

plain_then_behind : (xs : List Symbol) → plain xs ≡ true → plain_behind xs ≡ true
unfolding plain plain_behind
plain_then_behind [] h = refl
plain_then_behind (Read role ∷ ys) h = (and_parts (not (deepens role)) (plain ys) h).1
plain_then_behind (Emit mark ∷ ys) h = h
plain_then_behind (Rule part ∷ ys) h = h

plain_behind-append : (ys xs : List Symbol) → plain_behind ys ≡ true → plain xs ≡ true → plain_behind (ys ++ xs) ≡ true
unfolding plain_behind
plain_behind-append [] xs h q = plain_then_behind xs q
plain_behind-append (Read role ∷ ys) xs h q = plain-append ys xs h q
plain_behind-append (Emit mark ∷ ys) xs h q = plain-append ys xs h q
plain_behind-append (Rule part ∷ ys) xs h q = plain-append ys xs h q

weights-append : (ys xs : List Symbol) → weights (ys ++ xs) ≡ weights ys + weights xs
unfolding weights
weights-append [] xs = omega arith
weights-append (Read role ∷ ys) xs = omega (arith, weights-append ys xs)
weights-append (Emit mark ∷ ys) xs = omega (arith, weights-append ys xs)
weights-append (Rule r ∷ ys) xs = omega (arith, weights-append ys xs)

-- a token of a kind, which may stand anywhere
sample : TokenKind → Token
sample kind = record { kind = kind; bytes = 49 ∷ []; place = 0 }

one_in_range : (role : Role) → in_range role (number_of (49 ∷ [])) ≡ true
unfolding in_range number_of decimal
one_in_range (r.Fixed kind) = refl
one_in_range (r.Operator operator) = refl
one_in_range r.Distinct = refl
one_in_range r.Column = refl
one_in_range r.Qualified = refl
one_in_range r.Stream = refl
one_in_range r.Alias = refl
one_in_range r.Now = refl
one_in_range r.Range = refl
one_in_range r.Slide = refl
one_in_range r.Unbounded = refl
one_in_range r.Rows = refl
one_in_range r.Partition = refl
one_in_range r.Number = refl
one_in_range (r.Compare how) = refl
one_in_range (r.Deeper kind) = refl

not_true : (b : Bool) → not b ≡ true → b ≡ false
not_true true h = absurd (false≢true h)
not_true false h = refl

sample_allowed : (level : Level) (role : Role) (s : Draft) → not (deepens role) ≡ true → allowed level role s (sample (kind_of role)) ≡ true
unfolding allowed sample
sample_allowed Shape role s h = refl
sample_allowed Ranged role s h = one_in_range role
sample_allowed Strict role s h =
    and_from (in_range role (number_of (49 ∷ []))) (may_open role s.depth) (one_in_range role) (cond-false (deepens role) (nat_lt s.depth 32) true (not_true (deepens role) h))

pub allowed_strict : (level : Level) (role : Role) (s : Draft) (t : Token) → allowed Strict role s t ≡ true → allowed level role s t ≡ true
unfolding allowed
allowed_strict Shape role s t h = refl
allowed_strict Ranged role s t h = (and_parts (in_range role (number_of t.bytes)) (may_open role s.depth) h).0
allowed_strict Strict role s t h = h

weight_from_least : (part : Part) (ys : List Symbol) → least part ys ≡ true → (plain ys ≡ true) × (weights ys < weight part)
unfolding least
weight_from_least part ys e =
    let both = and_parts (plain ys) (ltb (weights ys) (weight part)) e in
    (both.0, ltb-true (weights ys) (weight part) both.1)

-- Whatever is left can be completed.
complete : (n : ℕ) (level : Level) (xs : List Symbol) (s : Draft) → weights xs ≤ n → plain xs ≡ true → (u : List Token) × ((s' : Draft) × Derives level xs s u s')
unfolding weights plain sample
complete n level [] s w h = ([], (s, nothing))
complete zero level (Read role ∷ xs) s w h = absurd (omega arith)
complete zero level (Emit mark ∷ xs) s w h = absurd (omega arith)
complete zero level (Rule q ∷ xs) s w h =
    let l = least_at q in
    let f = weight_from_least q l.0 l.2 in
    absurd (omega arith)
complete (suc n) level (Read role ∷ xs) s w h =
    let both = and_parts (not (deepens role)) (plain xs) h in
    let r = complete n level xs (took role (sample (kind_of role)).bytes s) (omega arith) both.1 in
    (sample (kind_of role) ∷ r.0, (r.1.0, read refl (sample_allowed level role s both.0) r.1.1))
complete (suc n) level (Emit mark ∷ xs) s w h =
    let r = complete n level xs (did mark s) (omega arith) h in
    (r.0, (r.1.0, emit r.1.1))
complete (suc n) level (Rule q ∷ xs) s w h =
    let l = least_at q in
    let f = weight_from_least q l.0 l.2 in
    let r = complete n level (l.0 ++ xs) s (omega (arith, weights-append l.0 xs)) (plain-append l.0 xs f.0 h) in
    (r.0, (r.1.0, rule l.0 l.1 r.1.1))

-- Taking a derivation apart.
of_rule : {level : Level} {part : Part} {xs : List Symbol} {s : Draft} {ts : List Token} {s' : Draft} → Derives level (Rule part ∷ xs) s ts s' → (ys : List Symbol) × Among ys (alternatives part) × Derives level (ys ++ xs) s ts s'
of_rule (rule ys a d) = (ys, a, d)

of_emit : {level : Level} {mark : Mark} {xs : List Symbol} {s : Draft} {ts : List Token} {s' : Draft} → Derives level (Emit mark ∷ xs) s ts s' → Derives level xs (did mark s) ts s'
of_emit (emit d) = d

record Next (level : Level) (role : Role) (xs : List Symbol) (s : Draft) (t : Token) (ts : List Token) (s' : Draft) : Type 0 where
  pub is : t.kind ≡ kind_of role
  pub ok : allowed level role s t ≡ true
  pub then : Derives level xs (took role t.bytes s) ts s'

of_read : {level : Level} {role : Role} {xs : List Symbol} {s : Draft} {t : Token} {ts : List Token} {s' : Draft} → Derives level (Read role ∷ xs) s (t ∷ ts) s' → Next level role xs s t ts s'
of_read (read e a d) = record { is = e; ok = a; then = d }

none_read : {level : Level} {role : Role} {xs : List Symbol} {s s' : Draft} → Derives level (Read role ∷ xs) s [] s' → ⊥
none_read d = elim d [ ]

none_over : {level : Level} {s s' : Draft} {t : Token} {ts : List Token} → Derives level [] s (t ∷ ts) s' → ⊥
none_over d = elim d [ ]

of_nothing : {level : Level} {s s' : Draft} → Derives level [] s [] s' → s ≡ s'
of_nothing nothing = refl

-- both are at an end, or both go on with one token
abbrev pub SameAhead : List Token → List Token → Type 0
SameAhead [] [] = Unit {0}
SameAhead (t ∷ ts) (v ∷ vs) = t ≡ v
SameAhead [] (v ∷ vs) = ⊥
SameAhead (t ∷ ts) [] = ⊥

-- The machine has read front, has rest before it, and the symbols to go.
pub record Going (front rest : List Token) (stack : List Symbol) (s : Draft) : Type 0 where
  pub same : (level : Level) (u : List Token) (s' : Draft) → SameAhead rest u → Derives level stack s u s' ↔ Derives level whole start (front ++ u) s'
  pub begins : Begins Strict front
  pub fit : Fit stack
  pub plain : plain_behind stack ≡ true

pub going_start : (rest : List Token) → Going [] rest whole start
unfolding plain plain_behind firsts
going_start rest = record {
  same = λ level u s' h. (λ d. d, λ d. d);
  begins = complete (weights whole) Strict whole start (omega arith) refl;
  fit = (λ kind h. absurd (false≢true h), tt);
  plain = refl;
}

pub going_emit : (front rest : List Token) (mark : Mark) (xs : List Symbol) (s : Draft) → Going front rest (Emit mark ∷ xs) s → Going front rest xs (did mark s)
unfolding plain_behind
going_emit front rest mark xs s g = record {
  same = λ level u s' h. (λ d. (g.same level u s' h).0 (emit d), λ d. of_emit ((g.same level u s' h).1 d));
  begins = g.begins;
  fit = g.fit;
  plain = plain_then_behind xs g.plain;
}

-- the kind of the next token
abbrev pub next_of : List Token → Option TokenKind
next_of [] = None
next_of (t ∷ ts) = Some t.kind

same_ahead : (r u : List Token) → SameAhead r u → next_of r ≡ next_of u
same_ahead [] [] h = refl
same_ahead (t ∷ ts) (v ∷ vs) h = ap (λ (x : Token). Some x.kind) h
same_ahead [] (v ∷ vs) h = absurd h
same_ahead (t ∷ ts) [] h = absurd h

-- the alternative that a derivation takes is the one that the next token chooses
chosen_by : (level : Level) (part : Part) (ys xs : List Symbol) (s : Draft) (u : List Token) (s' : Draft) → Among ys (alternatives part) → ((kind : TokenKind) → firsts xs kind ≡ true → has (follow part) kind ≡ true) → Derives level (ys ++ xs) s u s' → chosen part (next_of u) ≡ Some ys
unfolding CanStand
chosen_by level part ys xs s [] s' a below d = choose part None ys a (ends-append ys xs (ends_of d)).0
chosen_by level part ys xs s (t ∷ ts) s' a below d = choose part (Some t.kind) ys a (elim (firsts-append ys xs t.kind (firsts_of d)) [
  | inl f ↦ inl f
  | inr r ↦ inr (r.0, below t.kind r.1)
])

pub going_rule : (front rest : List Token) (part : Part) (ys xs : List Symbol) (s : Draft) → chosen part (next_of rest) ≡ Some ys → Going front rest (Rule part ∷ xs) s → Going front rest (ys ++ xs) s
unfolding plain_behind
going_rule front rest part ys xs s e g =
    let a = chosen_among part (next_of rest) ys e in
    record {
      same = λ level u s' h. (
        λ d. (g.same level u s' h).0 (rule ys a d),
        λ d. let r = of_rule ((g.same level u s' h).1 d) in
            let c : chosen part (next_of u) ≡ Some r.0 = chosen_by level part r.0 xs s u s' r.1 g.fit.0 r.2 in
            let b : next_of rest ≡ next_of u = same_ahead rest u h in
            let q : r.0 ≡ ys = cc in
            subst (λ (v : List Symbol). Derives level (v ++ xs) s u s') q r.2,
      );
      begins = g.begins;
      fit = Fit-append part ys xs (fits_at part ys a) g.fit.0 g.fit.1;
      plain = plain_behind-append ys xs (plain_behind_at part ys a) g.plain;
    }

regroup : (front : List Token) (t : Token) (u : List Token) → (front ++ t ∷ []) ++ u ≡ front ++ t ∷ u
regroup front t u = append_assoc front (t ∷ []) u

-- into the token that is next
into : (level : Level) (front rest : List Token) (t : Token) (stack : List Symbol) (s : Draft) (u : List Token) (s' : Draft) → Going front (t ∷ rest) stack s → Derives level stack s (t ∷ u) s' → Derives level whole start ((front ++ t ∷ []) ++ u) s'
into level front rest t stack s u s' g d = subst (λ (v : List Token). Derives level whole start v s') (sym (regroup front t u)) ((g.same level (t ∷ u) s' refl).0 d)

back : (level : Level) (front rest : List Token) (t : Token) (stack : List Symbol) (s : Draft) (u : List Token) (s' : Draft) → Going front (t ∷ rest) stack s → Derives level whole start ((front ++ t ∷ []) ++ u) s' → Derives level stack s (t ∷ u) s'
back level front rest t stack s u s' g d = (g.same level (t ∷ u) s' refl).1 (subst (λ (v : List Token). Derives level whole start v s') (regroup front t u) d)

pub going_read : (front rest : List Token) (t : Token) (role : Role) (xs : List Symbol) (s : Draft) → t.kind ≡ kind_of role → allowed Strict role s t ≡ true → Going front (t ∷ rest) (Read role ∷ xs) s → Going (front ++ t ∷ []) rest xs (took role t.bytes s)
unfolding plain_behind
going_read front rest t role xs s e a g = record {
  same = λ level u s' h. (
    λ d. into level front rest t _ s u s' g (read e (allowed_strict level role s t a) d),
    λ d. (of_read (back level front rest t _ s u s' g d)).then,
  );
  begins = (let r = complete (weights xs) Strict xs (took role t.bytes s) (omega arith) g.plain in
      (r.0, (r.1.0, into Strict front rest t _ s r.0 r.1.0 g (read e a r.1.1))));
  fit = g.fit;
  plain = plain_then_behind xs g.plain;
}

-- The faults.
pub no_rule : (front rest : List Token) (t : Token) (part : Part) (xs : List Symbol) (s : Draft) → chosen part (Some t.kind) ≡ None → Going front (t ∷ rest) (Rule part ∷ xs) s → Begins Shape (front ++ t ∷ []) → ⊥
no_rule front rest t part xs s e g b =
    let r = of_rule (back Shape front rest t _ s b.0 b.1.0 g b.1.1) in
    let c : chosen part (Some t.kind) ≡ Some r.0 = chosen_by Shape part r.0 xs s (t ∷ b.0) b.1.0 r.1 g.fit.0 r.2 in
    cc

pub no_read : (front rest : List Token) (t : Token) (role : Role) (xs : List Symbol) (s : Draft) → (t.kind ≡ kind_of role → ⊥) → Going front (t ∷ rest) (Read role ∷ xs) s → Begins Shape (front ++ t ∷ []) → ⊥
no_read front rest t role xs s e g b = e (of_read (back Shape front rest t _ s b.0 b.1.0 g b.1.1)).is

pub no_more : (front rest : List Token) (t : Token) (s : Draft) → Going front (t ∷ rest) [] s → Begins Shape (front ++ t ∷ []) → ⊥
no_more front rest t s g b = none_over (back Shape front rest t _ s b.0 b.1.0 g b.1.1)

pub short_rule : (front : List Token) (part : Part) (xs : List Symbol) (s s' : Draft) → chosen part None ≡ None → Going front [] (Rule part ∷ xs) s → Derives Shape whole start front s' → ⊥
short_rule front part xs s s' e g d =
    let d' = subst (λ (v : List Token). Derives Shape whole start v s') (sym (append-nil front)) d in
    let r = of_rule ((g.same Shape [] s' tt).1 d') in
    let c : chosen part None ≡ Some r.0 = chosen_by Shape part r.0 xs s [] s' r.1 g.fit.0 r.2 in
    cc

pub short_read : (front : List Token) (role : Role) (xs : List Symbol) (s s' : Draft) → Going front [] (Read role ∷ xs) s → Derives Shape whole start front s' → ⊥
short_read front role xs s s' g d = none_read ((g.same Shape [] s' tt).1 (subst (λ (v : List Token). Derives Shape whole start v s') (sym (append-nil front)) d))

-- A token that may stand there by level, and may not by more.
pub begins_at : (level : Level) (front rest : List Token) (t : Token) (role : Role) (xs : List Symbol) (s : Draft) → t.kind ≡ kind_of role → allowed level role s t ≡ true → Going front (t ∷ rest) (Read role ∷ xs) s → Begins level (front ++ t ∷ [])
unfolding plain_behind
begins_at level front rest t role xs s e a g =
    let r = complete (weights xs) level xs (took role t.bytes s) (omega arith) g.plain in
    (r.0, (r.1.0, into level front rest t _ s r.0 r.1.0 g (read e a r.1.1)))

pub not_at : (level : Level) (front rest : List Token) (t : Token) (role : Role) (xs : List Symbol) (s : Draft) → allowed level role s t ≡ false → Going front (t ∷ rest) (Read role ∷ xs) s → Begins level (front ++ t ∷ []) → ⊥
not_at level front rest t role xs s a g b = false≢true (sym a ∙ (of_read (back level front rest t _ s b.0 b.1.0 g b.1.1)).ok)

pub is_query : (level : Level) (front : List Token) (s : Draft) → Going front [] [] s → Derives level whole start front s
is_query level front s g = subst (λ (v : List Token). Derives level whole start v s) (append-nil front) ((g.same level [] s tt).0 nothing)

pub one_query : (level : Level) (front : List Token) (s s' : Draft) → Going front [] [] s → Derives level whole start front s' → s ≡ s'
one_query level front s s' g d = of_nothing ((g.same level [] s' tt).1 (subst (λ (v : List Token). Derives level whole start v s') (sym (append-nil front)) d))

-- A number that falls with each step of the machine.
abbrev effort_of : List Symbol → ℕ
effort_of [] = 64
effort_of (Read role ∷ xs) = 0
effort_of (Emit mark ∷ xs) = 64
effort_of (Rule q ∷ xs) = 64

abbrev pub effort : List Symbol → ℕ
effort xs = weights xs + effort_of xs

effort_most : (xs : List Symbol) → effort_of xs ≤ 64
effort_most [] = omega arith
effort_most (Read role ∷ xs) = omega arith
effort_most (Emit mark ∷ xs) = omega arith
effort_most (Rule q ∷ xs) = omega arith

pub effort_emit : (mark : Mark) (xs : List Symbol) → effort xs < effort (Emit mark ∷ xs)
unfolding weights
effort_emit mark xs = omega (arith, effort_most xs)

pub effort_read : (role : Role) (xs : List Symbol) → effort xs < 64 + effort (Read role ∷ xs)
unfolding weights
effort_read role xs = omega (arith, effort_most xs)

effort_rule_in : (part : Part) (ys xs : List Symbol) → light part ys ≡ true → effort (ys ++ xs) < effort (Rule part ∷ xs)
unfolding weights light
effort_rule_in part [] xs h = omega (arith, effort_most xs, ltb-true 0 (weight part) h)
effort_rule_in part (Read role ∷ ys) xs h = omega (arith, weights-append ys xs, ltb-true (weights (Read role ∷ ys)) (weight part + 64) h)
effort_rule_in part (Emit mark ∷ ys) xs h = omega (arith, weights-append ys xs, ltb-true (weights (Emit mark ∷ ys)) (weight part) h)
effort_rule_in part (Rule q ∷ ys) xs h = omega (arith, weights-append ys xs, ltb-true (weights (Rule q ∷ ys)) (weight part) h)

pub effort_rule : (part : Part) (next : Option TokenKind) (ys xs : List Symbol) → chosen part next ≡ Some ys → effort (ys ++ xs) < effort (Rule part ∷ xs)
effort_rule part next ys xs e = effort_rule_in part ys xs (light_at part ys (chosen_among part next ys e))

-- What the machine's result says of the text.
use Rattle.std.proofs.Common.{◌≡◌, ℕ, zero, suc, ◌+◌, ◌*◌, ◌<◌, Bool, true, false, ◌&&◌, List, [], ◌∷◌, ◌++◌, Option, Some, None, Result, Ok, Err, refl, sym, ap, ◌∙◌, ◌⊎◌, inl, inr, subst, arith}
use Rattle.std.proofs.lemmas.Bool.{cases_Bool, cases_lt, and_from, false≢true}
use denote.Enum.Bare.{true_same, same_true}
use Rattle.cql_reader.specs.contracts.tokens.TokenKind.{the_type}
use Rattle.cql_reader.specs.declared.symbols.Part.{Part}
use Rattle.cql_reader.specs.declared.symbols.Role.{Role}
use Rattle.cql_reader.specs.declared.symbols.Symbol.{Symbol}
use Rattle.cql_reader.specs.declared.symbols.Symbol.TheVariants.{Read, Rule, Emit}
use Rattle.cql_reader.specs.Lexis.{number_of}
use Rattle.cql_reader.specs.Tokens.{Token, end_of, Blank, Stands, Tokens}
use Rattle.cql_reader.specs.Scanning.{Scan, End, Bad, Then, scan_from}
use Rattle.cql_reader.specs.Fault.{Fault, TextTooLong, NotAscii, BadToken, Unexpected, NumberRange, TooDeep}
use Rattle.cql_reader.specs.Grammar.{Draft, Level, Shape, Ranged, Strict, allowed, kind_of, in_range, may_open, took, did, whole, start, IsQuery, Begins}
use Rattle.cql_reader.specs.Prediction.{same_kind, chosen, ahead, stopped, closed, taken, along, run, weight, weights, count, parsed}
use Rattle.cql_reader.specs.Reading.{IsText, OddByte, OddToken, TooShort, Outside}
use Rattle.cql_reader.proofs.Theory.{Going, going_start, going_emit, going_rule, going_read, no_rule, no_read, no_more, short_rule, short_read, begins_at, not_at, is_query, one_query, next_of, effort_emit, effort_read, effort_rule}
use Rattle.cql_reader.proofs.Runs.{left, taken_fits, taken_odd, taken_outside, taken_deep}
use Rattle.cql_reader.proofs.Texts.{Scanned, scanned_text}

abbrev pub listed : Scan → List Token
listed (End place) = []
listed (Bad place) = []
listed (Then t more) = t ∷ listed more

-- the text's tokens are a query, and no other draft is left of them
pub record Complete (text : List ℕ) (d : Draft) : Type 0 where
  pub tokens : List Token
  pub spelled : IsText text tokens
  pub derived : IsQuery Strict tokens d
  pub only : (d' : Draft) → IsQuery Shape tokens d' → d ≡ d'

-- the result is right for the text
abbrev pub Final : List ℕ → Result Draft Fault → Type 0
Final text (Ok d) = Complete text d
Final text (Err TextTooLong) = ⊥
Final text (Err NotAscii) = ⊥
Final text (Err (BadToken place)) = OddByte text place
Final text (Err (Unexpected place)) = OddToken text place ⊎ TooShort text place
Final text (Err (NumberRange place)) = Outside Shape Ranged text place
Final text (Err (TooDeep place)) = Outside Ranged Strict text place

join_blanks : (text : List ℕ) (a b c : ℕ) → Blank text a b → Blank text b c → Blank text a c
join_blanks text a b c p q = record {
  order = omega (arith, p.order, q.order);
  each = λ i f g. elim (cases_lt i b) [ inl l ↦ p.each i f l | inr m ↦ q.each i m g ];
}

pub reach : (text : List ℕ) (at : ℕ) (ts : List Token) (a b : ℕ) → Tokens text at ts a → Blank text a b → Tokens text at ts b
reach text at [] a b p q = join_blanks text at a b p q
reach text at (t ∷ ts) a b p q = (p.0, p.1, reach text (end_of t) ts a b p.2 q)

pub reach_token : (text : List ℕ) (at : ℕ) (ts : List Token) (t : Token) → Tokens text at ts t.place → Stands text t → Tokens text at (ts ++ t ∷ []) (end_of t)
reach_token text at [] t p s = (p, s, record { order = omega arith; each = λ i a b. absurd (omega arith) })
reach_token text at (u ∷ us) t p s = (p.0, p.1, reach_token text (end_of u) us t p.2 s)

fits_strictly : (role : Role) (d : Draft) (t : Token) → in_range role (number_of t.bytes) ≡ true → may_open role d.depth ≡ true → allowed Strict role d t ≡ true
unfolding allowed
fits_strictly role d t h m = and_from (in_range role (number_of t.bytes)) (may_open role d.depth) h m

fits_ranged : (role : Role) (d : Draft) (t : Token) → in_range role (number_of t.bytes) ≡ true → allowed Ranged role d t ≡ true
unfolding allowed
fits_ranged role d t h = h

and_false : (a b : Bool) → b ≡ false → (a && b) ≡ false
and_false true b h = h
and_false false b h = refl

too_deep : (role : Role) (d : Draft) (t : Token) → may_open role d.depth ≡ false → allowed Strict role d t ≡ false
unfolding allowed
too_deep role d t h = and_false (in_range role (number_of t.bytes)) (may_open role d.depth) h

outside_range : (role : Role) (d : Draft) (t : Token) → in_range role (number_of t.bytes) ≡ false → allowed Ranged role d t ≡ false
unfolding allowed
outside_range role d t h = h

fits_shape : (role : Role) (d : Draft) (t : Token) → allowed Shape role d t ≡ true
unfolding allowed
fits_shape role d t = refl

ahead_listed : (rest : Scan) → ahead rest ≡ next_of (listed rest)
ahead_listed (End place) = refl
ahead_listed (Bad place) = refl
ahead_listed (Then t more) = refl

-- where the machine is in a text: the tokens that it has read, and what is left
record Along (text : List ℕ) (front : List Token) (at : ℕ) (rest : Scan) (stack : List Symbol) (d : Draft) : Type 0 where
  pub passed : Tokens text 0 front at
  pub to_come : Scanned text at rest
  pub going : Going front (listed rest) stack d

odd_byte : (text : List ℕ) (front : List Token) (at place : ℕ) (stack : List Symbol) (d : Draft) → Along text front at (Bad place) stack d → OddByte text place
odd_byte text front at place stack d a =
    record { tokens = front; spelled = reach text 0 front at place a.passed a.to_come.0; none = a.to_come.1; before = a.going.begins }

odd_token : (text : List ℕ) (front : List Token) (at : ℕ) (t : Token) (more : Scan) (stack : List Symbol) (d : Draft) → Along text front at (Then t more) stack d → (Begins Shape (front ++ t ∷ []) → ⊥) → OddToken text t.place
odd_token text front at t more stack d a f = record {
  tokens = front;
  t = t;
  spelled = reach_token text 0 front t (reach text 0 front at t.place a.passed a.to_come.0) a.to_come.1;
  here = refl;
  before = a.going.begins;
  fault = f;
}

too_short : (text : List ℕ) (front : List Token) (at place : ℕ) (stack : List Symbol) (d : Draft) → Along text front at (End place) stack d → ((d' : Draft) → IsQuery Shape front d' → ⊥) → TooShort text place
too_short text front at place stack d a f = record {
  tokens = front;
  spelled = subst (λ (v : ℕ). Tokens text 0 front v) a.to_come.1 (reach text 0 front at place a.passed a.to_come.0);
  here = a.to_come.1;
  before = a.going.begins;
  fault = f;
}

final_closed : (text : List ℕ) (front : List Token) (at : ℕ) (rest : Scan) (d : Draft) → Along text front at rest [] d → Final text (closed d rest)
final_closed text front at (End place) d a = record {
  tokens = front;
  spelled = subst (λ (v : ℕ). Tokens text 0 front v) a.to_come.1 (reach text 0 front at place a.passed a.to_come.0);
  derived = is_query Strict front d a.going;
  only = λ d' q. one_query Shape front d d' a.going q;
}
final_closed text front at (Bad place) d a = odd_byte text front at place [] d a
final_closed text front at (Then t more) d a = inl (odd_token text front at t more [] d a (no_more front (listed more) t d a.going))

-- behind a token that fits
along_read : (text : List ℕ) (front : List Token) (at : ℕ) (t : Token) (more : Scan) (role : Role) (xs : List Symbol) (d : Draft) → t.kind ≡ kind_of role → in_range role (number_of t.bytes) ≡ true → may_open role d.depth ≡ true → Along text front at (Then t more) (Read role ∷ xs) d → Along text (front ++ t ∷ []) (end_of t) more xs (took role t.bytes d)
along_read text front at t more role xs d e f m a = record {
  passed = reach_token text 0 front t (reach text 0 front at t.place a.passed a.to_come.0) a.to_come.1;
  to_come = a.to_come.2;
  going = going_read front (listed more) t role xs d e (fits_strictly role d t f m) a.going;
}

-- a token that may stand there by one level, and may not by the next
outside : (fine bad : Level) (text : List ℕ) (front : List Token) (at : ℕ) (t : Token) (more : Scan) (role : Role) (xs : List Symbol) (d : Draft) → t.kind ≡ kind_of role → allowed fine role d t ≡ true → allowed bad role d t ≡ false → Along text front at (Then t more) (Read role ∷ xs) d → Outside fine bad text t.place
outside fine bad text front at t more role xs d e f g a = record {
  tokens = front;
  t = t;
  spelled = reach_token text 0 front t (reach text 0 front at t.place a.passed a.to_come.0) a.to_come.1;
  here = refl;
  before = a.going.begins;
  still = begins_at fine front (listed more) t role xs d e f a.going;
  fault = not_at bad front (listed more) t role xs d g a.going;
}

final_read : (text : List ℕ) (front : List Token) (at : ℕ) (t : Token) (more : Scan) (role : Role) (xs : List Symbol) (d : Draft) (after : Result Draft Fault) → Along text front at (Then t more) (Read role ∷ xs) d
    → (t.kind ≡ kind_of role → in_range role (number_of t.bytes) ≡ true → may_open role d.depth ≡ true → Final text after)
    → Final text (taken (same_kind t.kind (kind_of role)) (in_range role (number_of t.bytes)) (may_open role d.depth) t.place after)
final_read text front at t more role xs d after a go =
    let same = same_kind t.kind (kind_of role) in
    let fits = in_range role (number_of t.bytes) in
    let opens = may_open role d.depth in
    elim (cases_Bool same) [
      | inr h ↦ subst (Final text) (sym (taken_odd same fits opens t.place after h))
          (inl (odd_token text front at t more (Read role ∷ xs) d a
          (no_read front (listed more) t role xs d (λ e. false≢true (sym h ∙ true_same the_type t.kind (kind_of role) e)) a.going)))
      | inl h ↦ (let e : t.kind ≡ kind_of role = same_true the_type tt t.kind (kind_of role) h in elim (cases_Bool fits) [
        | inr f ↦ subst (Final text) (sym (taken_outside same fits opens t.place after h f))
            (outside Shape Ranged text front at t more role xs d e (fits_shape role d t) (outside_range role d t f) a)
        | inl f ↦ elim (cases_Bool opens) [
          | inl m ↦ subst (Final text) (sym (taken_fits same fits opens t.place after h f m)) (go e f m)
          | inr m ↦ subst (Final text) (sym (taken_deep same fits opens t.place after h f m))
              (outside Ranged Strict text front at t more role xs d e (fits_ranged role d t f) (too_deep role d t m) a)
        ]
      ])
    ]

final_stopped : (text : List ℕ) (front : List Token) (at : ℕ) (rest : Scan) (part : Part) (xs : List Symbol) (d : Draft) → chosen part (ahead rest) ≡ None → Along text front at rest (Rule part ∷ xs) d → Final text (Err (stopped rest))
final_stopped text front at (End place) part xs d e a =
    inr (too_short text front at place (Rule part ∷ xs) d a (λ d' q. short_rule front part xs d d' e a.going q))
final_stopped text front at (Bad place) part xs d e a = odd_byte text front at place (Rule part ∷ xs) d a
final_stopped text front at (Then t more) part xs d e a =
    inl (odd_token text front at t more (Rule part ∷ xs) d a (no_rule front (listed more) t part xs d e a.going))

final_along : (text : List ℕ) (o : Option (List Symbol)) (rest : Scan) (go : List Symbol → Result Draft Fault) → (o ≡ None → Final text (Err (stopped rest))) → ((ys : List Symbol) → o ≡ Some ys → Final text (go ys)) → Final text (along o rest go)
final_along text None rest go f g = f refl
final_along text (Some ys) rest go f g = g ys refl

-- whatever the machine answers from here is right for the text
final_run : (n : ℕ) (text : List ℕ) (front : List Token) (at : ℕ) (rest : Scan) (stack : List Symbol) (d : Draft) → left stack rest < n → Along text front at rest stack d → Final text (run n stack d rest)
unfolding run count
final_run zero text front at rest stack d h a = absurd (omega arith)
final_run (suc n) text front at rest [] d h a = final_closed text front at rest d a
final_run (suc n) text front at rest (Emit mark ∷ xs) d h a =
    final_run n text front at rest xs (did mark d) (omega (arith, effort_emit mark xs))
    (record { passed = a.passed; to_come = a.to_come; going = going_emit front (listed rest) mark xs d a.going })
final_run (suc n) text front at (End place) (Read role ∷ xs) d h a =
    inr (too_short text front at place (Read role ∷ xs) d a (λ d' q. short_read front role xs d d' a.going q))
final_run (suc n) text front at (Bad place) (Read role ∷ xs) d h a = odd_byte text front at place (Read role ∷ xs) d a
final_run (suc n) text front at (Then t more) (Read role ∷ xs) d h a =
    final_read text front at t more role xs d _ a (λ e f m.
    final_run n text (front ++ t ∷ []) (end_of t) more xs (took role t.bytes d) (omega (arith, effort_read role xs)) (along_read text front at t more role xs d e f m a))
final_run (suc n) text front at rest (Rule part ∷ xs) d h a =
    final_along text (chosen part (ahead rest)) rest (λ ys. run n (ys ++ xs) d rest)
    (λ e. final_stopped text front at rest part xs d e a)
    (λ ys e. final_run n text front at rest (ys ++ xs) d (omega (arith, effort_rule part (ahead rest) ys xs e)) (record {
      passed = a.passed;
      to_come = a.to_come;
      going = going_rule front (listed rest) part ys xs d (ap (chosen part) (sym (ahead_listed rest)) ∙ e) a.going;
    }))

-- what is found of a text is right for it
pub final_parsed : (text : List ℕ) → Final text (parsed (scan_from text 0))
unfolding parsed weights weight
final_parsed text =
    let rest = scan_from text 0 in
    final_run (64 * (count rest + 2)) text [] 0 rest whole start (omega arith) (record {
      passed = record { order = omega arith; each = λ i a b. absurd (omega arith) };
      to_come = scanned_text text;
      going = going_start (listed rest);
    })

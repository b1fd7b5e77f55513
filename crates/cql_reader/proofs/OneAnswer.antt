-- A text has one right answer.
use Rattle.std.proofs.Common.{◌≡◌, ℕ, zero, suc, ◌+◌, ◌<◌, ◌≤◌, true, false, List, [], ◌∷◌, ◌++◌, Some, None, Result, Ok, Err, refl, sym, ap, ◌∙◌, ◌⊎◌, inl, inr, subst, arith, length, drop, take, slice_index, nat_eq, reverse, append_assoc, append-nil, length-append}
use Rattle.std.proofs.lemmas.List.{reverse-append}
use Rattle.std.proofs.lemmas.Bool.{or_cases, eqb-true, false≢true, cases_order, cases_Bool, cases_lt}
use Rattle.cql_reader.specs.declared.tokens.TokenKind.{TokenKind}
use Rattle.cql_reader.specs.declared.symbols.Symbol.{Symbol}
use Rattle.cql_reader.specs.Lexis.{is_blank, token_at}
use Rattle.cql_reader.specs.Tokens.{Token, end_of, Blank, Stands, Tokens, NoToken}
use Rattle.cql_reader.specs.Scanning.{all_ascii, scan_from}
use Rattle.cql_reader.specs.Query.{Query}
use Rattle.cql_reader.specs.Fault.{Fault, TextTooLong, NotAscii, BadToken, Unexpected, NumberRange, TooDeep}
use Rattle.cql_reader.specs.Grammar.{Draft, Level, Shape, Ranged, Strict, allowed, Derives, nothing, read, emit, rule, IsQuery, Begins, Fails, finished}
use Rattle.cql_reader.specs.Prediction.{parsed}
use Rattle.cql_reader.specs.Reading.{Fine, Names, OddByte, OddToken, TooShort, Outside, IsAnswer}
use Rattle.cql_reader.specs.Judging.{judged, reading}
use Rattle.cql_reader.proofs.Ascii.{each_ascii, some_not_ascii}
use Rattle.cql_reader.proofs.Readings.{reading_long, reading_not_ascii, reading_fine}
use Rattle.cql_reader.proofs.Theory.{allowed_strict}
use Rattle.cql_reader.proofs.Outcomes.{Complete, Final, final_parsed}

-- Where tokens stand, and where they stop.

-- where tokens stop
abbrev Stops : List ℕ → ℕ → Type 0
Stops text at = (at ≡ length text) ⊎ NoToken text at

blank_is : (a : ℕ) → is_blank a ≡ true → (a ≡ 32) ⊎ ((a ≡ 9) ⊎ ((a ≡ 10) ⊎ (a ≡ 13)))
blank_is a h = elim (or_cases _ (nat_eq a 13) h) [
  | inl h2 ↦ elim (or_cases _ (nat_eq a 10) h2) [
    | inl h3 ↦ elim (or_cases _ (nat_eq a 9) h3) [
      | inl h4 ↦ inl (eqb-true a 32 h4)
      | inr g ↦ inr (inl (eqb-true a 9 g))
    ]
    | inr g ↦ inr (inr (inl (eqb-true a 10 g)))
  ]
  | inr g ↦ inr (inr (inr (eqb-true a 13 g)))
]

none_at : (a : ℕ) (bs : List ℕ) → (a ≡ 32) ⊎ ((a ≡ 9) ⊎ ((a ≡ 10) ⊎ (a ≡ 13))) → token_at (a ∷ bs) ≡ None
unfolding token_at
none_at a bs (inl e) = ap (λ (v : ℕ). token_at (v ∷ bs)) e
none_at a bs (inr (inl e)) = ap (λ (v : ℕ). token_at (v ∷ bs)) e
none_at a bs (inr (inr (inl e))) = ap (λ (v : ℕ). token_at (v ∷ bs)) e
none_at a bs (inr (inr (inr e))) = ap (λ (v : ℕ). token_at (v ∷ bs)) e

not_both : (a : ℕ) (bs : List ℕ) (r : TokenKind × ℕ) → is_blank a ≡ true → token_at (a ∷ bs) ≡ Some r → ⊥
not_both a bs r h e = let n = none_at a bs (blank_is a h) in cc

ink : (text : List ℕ) (i : ℕ) (r : TokenKind × ℕ) → token_at (drop i text) ≡ Some r → is_blank (slice_index text i) ≡ true → ⊥
ink [] zero r e h = false≢true h
ink [] (suc i) r e h = false≢true h
ink (a ∷ bs) zero r e h = not_both a bs r h e
ink (a ∷ bs) (suc i) r e h = ink bs i r e h

-- tokens do not stop where a blank stands
stop_before : (text : List ℕ) (at a b : ℕ) → Blank text at b → at ≤ a → a < b → b ≤ length text → Stops text a → ⊥
stop_before text at a b q l h w (inl e) = omega arith
stop_before text at a b q l h w (inr n) = false≢true (sym n.ink ∙ q.each a l h)

stops_within : (text : List ℕ) (a : ℕ) → Stops text a → a ≤ length text
stops_within text a (inl e) = omega arith
stops_within text a (inr n) = let w = n.within in omega arith

starts_within : (text : List ℕ) (u : Token) → Stands text u → u.place < length text
starts_within text u st = let f = st.forward in let w = st.within in omega arith

-- nor where a token begins
stop_at : (text : List ℕ) (a : ℕ) (u : Token) → Stops text a → a ≡ u.place → Stands text u → ⊥
stop_at text a u (inl e) q st = let w = starts_within text u st in omega arith
stop_at text a u (inr n) q st =
    let l = st.longest in
    let m : token_at (drop u.place text) ≡ None = subst (λ (v : ℕ). token_at (drop v text) ≡ None) q n.none in
    cc

no_other : (text : List ℕ) (at a : ℕ) (u : Token) → Blank text at a → Stops text a → Blank text at u.place → Stands text u → ⊥
no_other text at a u p x q st = elim (cases_order a u.place) [
  | inl e ↦ stop_at text a u x e st
  | inr o ↦ elim o [
    | inl l ↦ (let w = starts_within text u st in stop_before text at a u.place q p.order l (omega arith) x)
    | inr g ↦ ink text u.place _ st.longest (p.each u.place q.order g)
  ]
]

token_from : (t u : Token) → t.kind ≡ u.kind → t.bytes ≡ u.bytes → t.place ≡ u.place → t ≡ u
token_from t u k s e =
    ap (λ (v : TokenKind). record { kind = v; bytes = t.bytes; place = t.place }) k
    ∙ ap (λ (v : List ℕ). record { kind = u.kind; bytes = v; place = t.place }) s
    ∙ ap (λ (v : ℕ). record { kind = u.kind; bytes = u.bytes; place = v }) e

same_token : (text : List ℕ) (t u : Token) → t.place ≡ u.place → Stands text t → Stands text u → t ≡ u
same_token text t u e a b =
    let p : token_at (drop u.place text) ≡ Some (t.kind, length t.bytes) = subst (λ (v : ℕ). token_at (drop v text) ≡ Some (t.kind, length t.bytes)) e a.longest in
    let P : Type 0 = TokenKind × ℕ in
    let x : P = (t.kind, length t.bytes) in
    let y : P = (u.kind, length u.bytes) in
    let o : Some x ≡ Some y = sym p ∙ b.longest in
    let w : x ≡ y = cc in
    let k : t.kind ≡ u.kind = ap (λ (v : P). v.0) w in
    let l : length t.bytes ≡ length u.bytes = ap (λ (v : P). v.1) w in
    let s : t.bytes ≡ u.bytes =
    a.spelled ∙ ap (λ (v : ℕ). take (length t.bytes) (drop v text)) e ∙ ap (λ (v : ℕ). take v (drop u.place text)) l ∙ sym b.spelled in
    token_from t u k s e

-- Fronts of the same tokens.

-- the tokens ts are the first of us
record Front (ts us : List Token) : Type 0 where
  pub more : List Token
  pub same : us ≡ ts ++ more

front_more : (t : Token) (ts us : List Token) → Front ts us → Front (t ∷ ts) (t ∷ us)
front_more t ts us f = record { more = f.more; same = ap (λ (v : List Token). t ∷ v) f.same }

-- of two lists of the text's tokens one is a front of the other
comparable : (text : List ℕ) (at : ℕ) (ts us : List Token) (a b : ℕ) → Tokens text at ts a → Tokens text at us b → Front ts us ⊎ Front us ts
comparable text at [] us a b p q = inl (record { more = us; same = refl })
comparable text at (t ∷ ts) [] a b p q = inr (record { more = t ∷ ts; same = refl })
comparable text at (t ∷ ts) (u ∷ us) a b p q = elim (cases_order t.place u.place) [
  | inl e ↦ (let s : t ≡ u = same_token text t u e p.1 q.1 in
      let q2 : Tokens text (end_of t) us b = subst (λ (v : Token). Tokens text (end_of v) us b) (sym s) q.2 in
      elim (comparable text (end_of t) ts us a b p.2 q2) [
        | inl f ↦ inl (subst (λ (v : Token). Front (t ∷ ts) (v ∷ us)) s (front_more t ts us f))
        | inr f ↦ inr (subst (λ (v : Token). Front (v ∷ us) (t ∷ ts)) s (front_more t us ts f))
      ])
  | inr o ↦ elim o [
    | inl l ↦ absurd (ink text t.place _ p.1.longest (q.0.each t.place p.0.order l))
    | inr g ↦ absurd (ink text u.place _ q.1.longest (p.0.each u.place q.0.order g))
  ]
]

-- what stops has all tokens
stop_front : (text : List ℕ) (at : ℕ) (ts us : List Token) (a b : ℕ) → Tokens text at ts a → Stops text a → Tokens text at us b → Front us ts
stop_front text at ts [] a b p x q = record { more = ts; same = refl }
stop_front text at [] (u ∷ us) a b p x q = absurd (no_other text at a u p x q.0 q.1)
stop_front text at (t ∷ ts) (u ∷ us) a b p x q = elim (cases_order t.place u.place) [
  | inl e ↦ (let s : t ≡ u = same_token text t u e p.1 q.1 in
      let q2 : Tokens text (end_of t) us b = subst (λ (v : Token). Tokens text (end_of v) us b) (sym s) q.2 in
      subst (λ (v : Token). Front (v ∷ us) (t ∷ ts)) s (front_more t us ts (stop_front text (end_of t) ts us a b p.2 x q2)))
  | inr o ↦ elim o [
    | inl l ↦ absurd (ink text t.place _ p.1.longest (q.0.each t.place p.0.order l))
    | inr g ↦ absurd (ink text u.place _ q.1.longest (p.0.each u.place q.0.order g))
  ]
]

-- tokens stop at one place
one_stop : (text : List ℕ) (at : ℕ) (ts : List Token) (a b : ℕ) → Tokens text at ts a → Tokens text at ts b → Stops text a → Stops text b → a ≡ b
one_stop text at [] a b p q x y = elim (cases_order a b) [
  | inl e ↦ e
  | inr o ↦ elim o [
    | inl l ↦ absurd (stop_before text at a b q p.order l (stops_within text b y) x)
    | inr g ↦ absurd (stop_before text at b a p q.order g (stops_within text a x) y)
  ]
]
one_stop text at (t ∷ ts) a b p q x y = one_stop text (end_of t) ts a b p.2 q.2 x y

nothing_more : (ts : List Token) → length ts ≡ 0 → ts ≡ []
nothing_more [] e = refl
nothing_more (t ∷ ts) e = absurd (omega arith)

both_fronts : (ts us : List Token) → Front ts us → Front us ts → ts ≡ us
both_fronts ts us f g =
    let a : length us ≡ length ts + length f.more = ap length f.same ∙ length-append ts f.more in
    let b : length ts ≡ length us + length g.more = ap length g.same ∙ length-append us g.more in
    let n : f.more ≡ [] = nothing_more f.more (omega arith) in
    sym (f.same ∙ ap (λ (v : List Token). ts ++ v) n ∙ append-nil ts)

-- a front of tokens that one more token follows is the whole, or a front without that token
front_of_more : (xs zs : List Token) (y v : Token) (vs : List Token) → xs ++ y ∷ [] ≡ zs ++ v ∷ vs → Front zs xs
front_of_more xs [] y v vs e = record { more = xs; same = refl }
front_of_more [] (z ∷ zs) y v vs e =
    let h : length ([] ++ y ∷ []) ≡ length ((z ∷ zs) ++ v ∷ vs) = ap length e in
    let l = length-append zs (v ∷ vs) in
    absurd (omega (arith, h, l))
front_of_more (x ∷ xs) (z ∷ zs) y v vs e =
    let a : x ≡ z = cc in
    let b : xs ++ y ∷ [] ≡ zs ++ v ∷ vs = cc in
    subst (λ (w : Token). Front (w ∷ zs) (x ∷ xs)) a (front_more x zs xs (front_of_more xs zs y v vs b))

-- Levels.

weaken : (level : Level) {xs : List Symbol} {d : Draft} {ts : List Token} {d' : Draft} → Derives Strict xs d ts d' → Derives level xs d ts d'
weaken level nothing = nothing
weaken level (read {role = role} {d = d} {t = t} e a q) = read e (allowed_strict level role d t a) (weaken level q)
weaken level (emit q) = emit (weaken level q)
weaken level (rule ys a q) = rule ys a (weaken level q)

to_shape : {level : Level} {xs : List Symbol} {d : Draft} {ts : List Token} {d' : Draft} → Derives level xs d ts d' → Derives Shape xs d ts d'
unfolding allowed
to_shape nothing = nothing
to_shape (read e a q) = read e refl (to_shape q)
to_shape (emit q) = emit (to_shape q)
to_shape (rule ys a q) = rule ys a (to_shape q)

begins_shape : (level : Level) (ts : List Token) → Begins level ts → Begins Shape ts
begins_shape level ts b = (b.0, (b.1.0, to_shape b.1.1))

begins_front : (level : Level) (ts us : List Token) → Front ts us → Begins Strict us → Begins level ts
begins_front level ts us f b =
    (f.more ++ b.0, (b.1.0, weaken level (subst (λ (v : List Token). IsQuery Strict v b.1.0) (ap (λ (v : List Token). v ++ b.0) f.same ∙ append_assoc ts f.more b.0) b.1.1)))

query_begins : (ts : List Token) (d : Draft) → IsQuery Strict ts d → Begins Strict ts
query_begins ts d q = ([], (d, subst (λ (v : List Token). IsQuery Strict v d) (sym (append-nil ts)) q))

-- Answers.

-- the tokens of the text up to where they stop, which begin a query
record Stop (text : List ℕ) (ts : List Token) (at : ℕ) : Type 0 where
  pub spelled : Tokens text 0 ts at
  pub stops : Stops text at
  pub before : Begins Strict ts

-- a token behind which there is no query
record Barrier (bad : Level) (text : List ℕ) (ts : List Token) (t : Token) : Type 0 where
  pub spelled : Tokens text 0 (ts ++ t ∷ []) (end_of t)
  pub before : Begins Strict ts
  pub fault : Fails bad (ts ++ t ∷ [])

same_stop : (text : List ℕ) (ts us : List Token) (a b : ℕ) → Stop text ts a → Stop text us b → (ts ≡ us) × (a ≡ b)
same_stop text ts us a b p q =
    let e = both_fronts ts us (stop_front text 0 us ts b a q.spelled q.stops p.spelled) (stop_front text 0 ts us a b p.spelled p.stops q.spelled) in
    (e, one_stop text 0 us a b (subst (λ (v : List Token). Tokens text 0 v a) e p.spelled) q.spelled p.stops q.stops)

stop_or_barrier : (bad : Level) (text : List ℕ) (ts us : List Token) (a : ℕ) (u : Token) → Stop text ts a → Barrier bad text us u → ⊥
stop_or_barrier bad text ts us a u p q =
    q.fault (begins_front bad (us ++ u ∷ []) ts (stop_front text 0 ts (us ++ u ∷ []) a (end_of u) p.spelled p.stops q.spelled) p.before)

last_is : (xs zs : List Token) (y v : Token) → xs ++ y ∷ [] ≡ zs ++ v ∷ [] → y ≡ v
last_is xs zs y v e =
    let a : y ∷ reverse xs ≡ v ∷ reverse zs = sym (reverse-append xs (y ∷ [])) ∙ ap (λ (w : List Token). reverse w) e ∙ reverse-append zs (v ∷ []) in cc

no_later : (bad : Level) (xs us : List Token) (u : Token) (more : List Token) → us ++ u ∷ [] ≡ xs ++ more → Fails bad xs → Begins Strict us → us ++ u ∷ [] ≡ xs
no_later bad xs us u [] e f b = e ∙ append-nil xs
no_later bad xs us u (v ∷ vs) e f b = absurd (f (begins_front bad xs us (front_of_more us xs u v vs e) b))

same_barrier : (bad worse : Level) (text : List ℕ) (ts us : List Token) (t u : Token) → Barrier bad text ts t → Barrier worse text us u → ts ++ t ∷ [] ≡ us ++ u ∷ []
same_barrier bad worse text ts us t u p q = elim (comparable text 0 (ts ++ t ∷ []) (us ++ u ∷ []) (end_of t) (end_of u) p.spelled q.spelled) [
  | inl f ↦ sym (no_later bad (ts ++ t ∷ []) us u f.more f.same p.fault q.before)
  | inr f ↦ no_later worse (us ++ u ∷ []) ts t f.more f.same q.fault p.before
]

same_place : (ts us : List Token) (t u : Token) (p q : ℕ) → ts ++ t ∷ [] ≡ us ++ u ∷ [] → p ≡ t.place → q ≡ u.place → p ≡ q
same_place ts us t u p q e f g = f ∙ ap (λ (v : Token). v.place) (last_is ts us t u e) ∙ sym g

stop_names : (text : List ℕ) (query : Query) (n : Names text query) → Stop text n.tokens (length text)
stop_names text query n = record { spelled = n.spelled; stops = inl refl; before = query_begins n.tokens n.draft n.derived }

stop_complete : (text : List ℕ) (d : Draft) (c : Complete text d) → Stop text c.tokens (length text)
stop_complete text d c = record { spelled = c.spelled; stops = inl refl; before = query_begins c.tokens d c.derived }

stop_byte : (text : List ℕ) (place : ℕ) (o : OddByte text place) → Stop text o.tokens place
stop_byte text place o = record { spelled = o.spelled; stops = inr o.none; before = o.before }

stop_short : (text : List ℕ) (place : ℕ) (o : TooShort text place) → Stop text o.tokens (length text)
stop_short text place o = record { spelled = o.spelled; stops = inl refl; before = o.before }

barrier_token : (text : List ℕ) (place : ℕ) (o : OddToken text place) → Barrier Shape text o.tokens o.t
barrier_token text place o = record { spelled = o.spelled; before = o.before; fault = o.fault }

barrier_outside : (fine bad : Level) (text : List ℕ) (place : ℕ) (o : Outside fine bad text place) → Barrier bad text o.tokens o.t
barrier_outside fine bad text place o = record { spelled = o.spelled; before = o.before; fault = o.fault }

-- a byte at which no token begins is not the end
not_end : (text : List ℕ) (place : ℕ) → NoToken text place → place ≡ length text → ⊥
not_end text place n e = let w = n.within in omega arith

short_of_none : (text : List ℕ) (place : ℕ) (d : Draft) (ts : List Token) (s : TooShort text place) → ts ≡ s.tokens → IsQuery Strict ts d → ⊥
short_of_none text place d ts s e q = s.fault d (subst (λ (v : List Token). IsQuery Shape v d) e (weaken Shape q))

still_or_fault : (fine bad : Level) (text : List ℕ) (place place' : ℕ) (x : OddToken text place) (y : Outside fine bad text place') → ⊥
still_or_fault fine bad text place place' x y =
    let e = same_barrier Shape bad text x.tokens y.tokens x.t y.t (barrier_token text place x) (barrier_outside fine bad text place' y) in
    x.fault (subst (λ (v : List Token). Begins Shape v) (sym e) (begins_shape fine (y.tokens ++ y.t ∷ []) y.still))

range_or_depth : (text : List ℕ) (place place' : ℕ) (x : Outside Shape Ranged text place) (y : Outside Ranged Strict text place') → ⊥
range_or_depth text place place' x y =
    let e = same_barrier Ranged Strict text x.tokens y.tokens x.t y.t (barrier_outside Shape Ranged text place x) (barrier_outside Ranged Strict text place' y) in
    x.fault (subst (λ (v : List Token). Begins Ranged v) (sym e) y.still)

same_outside : (fine bad : Level) (text : List ℕ) (place place' : ℕ) (x : Outside fine bad text place) (y : Outside fine bad text place') → place ≡ place'
same_outside fine bad text place place' x y =
    let e = same_barrier bad bad text x.tokens y.tokens x.t y.t (barrier_outside fine bad text place x) (barrier_outside fine bad text place' y) in
    same_place x.tokens y.tokens x.t y.t place place' e x.here y.here

-- a token outside is no byte at which none begins, no end of a query, and no end of the text
stop_or_outside : (fine bad : Level) (text : List ℕ) (ts : List Token) (a place : ℕ) → Stop text ts a → Outside fine bad text place → ⊥
stop_or_outside fine bad text ts a place p y = stop_or_barrier bad text ts y.tokens a y.t p (barrier_outside fine bad text place y)

-- an answer that is right is the one that is found
one_final : (text : List ℕ) (a : Result Query Fault) (o : Result Draft Fault) → Fine text → IsAnswer text a → Final text o → a ≡ judged o
one_final text (Err TextTooLong) o fine x y = let w = fine.short in absurd (omega arith)
one_final text (Err NotAscii) o fine x y = let w = fine.ascii x.1.0 in let v = x.1.1 in absurd (omega arith)
one_final text a (Err TextTooLong) fine x y = absurd y
one_final text a (Err NotAscii) fine x y = absurd y
one_final text (Ok query) (Ok d) fine x y =
    let n = x.1 in
    let s = same_stop text n.tokens y.tokens (length text) (length text) (stop_names text query n) (stop_complete text d y) in
    let e : d ≡ n.draft = y.only n.draft (subst (λ (v : List Token). IsQuery Shape v n.draft) s.0 (weaken Shape n.derived)) in
    ap Ok (n.built ∙ ap finished (sym e))
one_final text (Ok query) (Err (BadToken place)) fine x y =
    let s = same_stop text x.1.tokens y.tokens (length text) place (stop_names text query x.1) (stop_byte text place y) in
    absurd (not_end text place y.none (sym s.1))
one_final text (Ok query) (Err (Unexpected place)) fine x (inl y) =
    absurd (stop_or_barrier Shape text x.1.tokens y.tokens (length text) y.t (stop_names text query x.1) (barrier_token text place y))
one_final text (Ok query) (Err (Unexpected place)) fine x (inr y) =
    let s = same_stop text x.1.tokens y.tokens (length text) (length text) (stop_names text query x.1) (stop_short text place y) in
    absurd (short_of_none text place x.1.draft x.1.tokens y s.0 x.1.derived)
one_final text (Err (BadToken p)) (Ok d) fine x y =
    let s = same_stop text x.1.tokens y.tokens p (length text) (stop_byte text p x.1) (stop_complete text d y) in
    absurd (not_end text p x.1.none s.1)
one_final text (Err (BadToken p)) (Err (BadToken place)) fine x y =
    let s = same_stop text x.1.tokens y.tokens p place (stop_byte text p x.1) (stop_byte text place y) in
    ap (λ (v : ℕ). Err (BadToken v)) s.1
one_final text (Err (BadToken p)) (Err (Unexpected place)) fine x (inl y) =
    absurd (stop_or_barrier Shape text x.1.tokens y.tokens p y.t (stop_byte text p x.1) (barrier_token text place y))
one_final text (Err (BadToken p)) (Err (Unexpected place)) fine x (inr y) =
    let s = same_stop text x.1.tokens y.tokens p (length text) (stop_byte text p x.1) (stop_short text place y) in
    absurd (not_end text p x.1.none s.1)
one_final text (Err (Unexpected p)) (Ok d) fine (f, inl x) y =
    absurd (stop_or_barrier Shape text y.tokens x.tokens (length text) x.t (stop_complete text d y) (barrier_token text p x))
one_final text (Err (Unexpected p)) (Err (BadToken place)) fine (f, inl x) y =
    absurd (stop_or_barrier Shape text y.tokens x.tokens place x.t (stop_byte text place y) (barrier_token text p x))
one_final text (Err (Unexpected p)) (Err (Unexpected place)) fine (f, inl x) (inl y) =
    let e = same_barrier Shape Shape text x.tokens y.tokens x.t y.t (barrier_token text p x) (barrier_token text place y) in
    ap (λ (v : ℕ). Err (Unexpected v)) (same_place x.tokens y.tokens x.t y.t p place e x.here y.here)
one_final text (Err (Unexpected p)) (Err (Unexpected place)) fine (f, inl x) (inr y) =
    absurd (stop_or_barrier Shape text y.tokens x.tokens (length text) x.t (stop_short text place y) (barrier_token text p x))
one_final text (Err (Unexpected p)) (Ok d) fine (f, inr x) y =
    let s = same_stop text y.tokens x.tokens (length text) (length text) (stop_complete text d y) (stop_short text p x) in
    absurd (short_of_none text p d y.tokens x s.0 y.derived)
one_final text (Err (Unexpected p)) (Err (BadToken place)) fine (f, inr x) y =
    let s = same_stop text y.tokens x.tokens place (length text) (stop_byte text place y) (stop_short text p x) in
    absurd (not_end text place y.none s.1)
one_final text (Err (Unexpected p)) (Err (Unexpected place)) fine (f, inr x) (inl y) =
    absurd (stop_or_barrier Shape text x.tokens y.tokens (length text) y.t (stop_short text p x) (barrier_token text place y))
one_final text (Err (Unexpected p)) (Err (Unexpected place)) fine (f, inr x) (inr y) =
    ap (λ (v : ℕ). Err (Unexpected v)) (x.here ∙ sym y.here)
one_final text (Ok query) (Err (NumberRange place)) fine x y =
    absurd (stop_or_outside Shape Ranged text x.1.tokens (length text) place (stop_names text query x.1) y)
one_final text (Err (BadToken p)) (Err (NumberRange place)) fine x y =
    absurd (stop_or_outside Shape Ranged text x.1.tokens p place (stop_byte text p x.1) y)
one_final text (Err (Unexpected p)) (Err (NumberRange place)) fine (f, inl x) y = absurd (still_or_fault Shape Ranged text p place x y)
one_final text (Err (Unexpected p)) (Err (NumberRange place)) fine (f, inr x) y =
    absurd (stop_or_outside Shape Ranged text x.tokens (length text) place (stop_short text p x) y)
one_final text (Err (NumberRange p)) (Ok d) fine x y =
    absurd (stop_or_outside Shape Ranged text y.tokens (length text) p (stop_complete text d y) x.1)
one_final text (Err (NumberRange p)) (Err (BadToken place)) fine x y =
    absurd (stop_or_outside Shape Ranged text y.tokens place p (stop_byte text place y) x.1)
one_final text (Err (NumberRange p)) (Err (Unexpected place)) fine x (inl y) = absurd (still_or_fault Shape Ranged text place p y x.1)
one_final text (Err (NumberRange p)) (Err (Unexpected place)) fine x (inr y) =
    absurd (stop_or_outside Shape Ranged text y.tokens (length text) p (stop_short text place y) x.1)
one_final text (Err (NumberRange p)) (Err (NumberRange place)) fine x y = ap (λ (v : ℕ). Err (NumberRange v)) (same_outside Shape Ranged text p place x.1 y)
one_final text (Ok query) (Err (TooDeep place)) fine x y =
    absurd (stop_or_outside Ranged Strict text x.1.tokens (length text) place (stop_names text query x.1) y)
one_final text (Err (BadToken p)) (Err (TooDeep place)) fine x y =
    absurd (stop_or_outside Ranged Strict text x.1.tokens p place (stop_byte text p x.1) y)
one_final text (Err (Unexpected p)) (Err (TooDeep place)) fine (f, inl x) y = absurd (still_or_fault Ranged Strict text p place x y)
one_final text (Err (Unexpected p)) (Err (TooDeep place)) fine (f, inr x) y =
    absurd (stop_or_outside Ranged Strict text x.tokens (length text) place (stop_short text p x) y)
one_final text (Err (TooDeep p)) (Ok d) fine x y =
    absurd (stop_or_outside Ranged Strict text y.tokens (length text) p (stop_complete text d y) x.1)
one_final text (Err (TooDeep p)) (Err (BadToken place)) fine x y =
    absurd (stop_or_outside Ranged Strict text y.tokens place p (stop_byte text place y) x.1)
one_final text (Err (TooDeep p)) (Err (Unexpected place)) fine x (inl y) = absurd (still_or_fault Ranged Strict text place p y x.1)
one_final text (Err (TooDeep p)) (Err (Unexpected place)) fine x (inr y) =
    absurd (stop_or_outside Ranged Strict text y.tokens (length text) p (stop_short text place y) x.1)
one_final text (Err (TooDeep p)) (Err (TooDeep place)) fine x y = ap (λ (v : ℕ). Err (TooDeep v)) (same_outside Ranged Strict text p place x.1 y)
one_final text (Err (NumberRange p)) (Err (TooDeep place)) fine x y = absurd (range_or_depth text p place x.1 y)
one_final text (Err (TooDeep p)) (Err (NumberRange place)) fine x y = absurd (range_or_depth text place p y x.1)

final_right : (text : List ℕ) (o : Result Draft Fault) → Fine text → Final text o → IsAnswer text (judged o)
final_right text (Ok d) fine y = (fine, record { tokens = y.tokens; draft = d; spelled = y.spelled; derived = y.derived; built = refl })
final_right text (Err TextTooLong) fine y = absurd y
final_right text (Err NotAscii) fine y = absurd y
final_right text (Err (BadToken place)) fine y = (fine, y)
final_right text (Err (Unexpected place)) fine y = (fine, y)
final_right text (Err (NumberRange place)) fine y = (fine, y)
final_right text (Err (TooDeep place)) fine y = (fine, y)

-- a text is too long, or not of ASCII, or judged token by token
judge : (text : List ℕ) → (4096 < length text) ⊎ (((length text ≤ 4096) × (all_ascii text ≡ false)) ⊎ ((length text ≤ 4096) × (all_ascii text ≡ true)))
judge text = elim (cases_lt 4096 (length text)) [
  | inl l ↦ inl l
  | inr g ↦ elim (cases_Bool (all_ascii text)) [ inl t ↦ inr (inr (g, t)) | inr f ↦ inr (inl (g, f)) ]
]

fine_text : (text : List ℕ) → length text ≤ 4096 → all_ascii text ≡ true → Fine text
fine_text text h e = record { short = h; ascii = each_ascii text e }

pub reading_right : (text : List ℕ) → IsAnswer text (reading text)
reading_right text = elim (judge text) [
  | inl l ↦ subst (IsAnswer text) (sym (reading_long text l)) l
  | inr (inl f) ↦ subst (IsAnswer text) (sym (reading_not_ascii text f.0 f.1)) (f.0, some_not_ascii text f.1)
  | inr (inr t) ↦ subst (IsAnswer text) (sym (reading_fine text t.0 t.1)) (final_right text (parsed (scan_from text 0)) (fine_text text t.0 t.1) (final_parsed text))
]

too_long_is : (text : List ℕ) (a : Result Query Fault) → 4096 < length text → IsAnswer text a → a ≡ Err TextTooLong
too_long_is text (Ok query) h x = let w = x.0.short in absurd (omega arith)
too_long_is text (Err TextTooLong) h x = refl
too_long_is text (Err NotAscii) h x = let w = x.0 in absurd (omega arith)
too_long_is text (Err (BadToken p)) h x = let w = x.0.short in absurd (omega arith)
too_long_is text (Err (Unexpected p)) h x = let w = x.0.short in absurd (omega arith)
too_long_is text (Err (NumberRange p)) h x = let w = x.0.short in absurd (omega arith)
too_long_is text (Err (TooDeep p)) h x = let w = x.0.short in absurd (omega arith)

not_fine : (text : List ℕ) → all_ascii text ≡ false → Fine text → ⊥
not_fine text e fine = let n = some_not_ascii text e in let w = fine.ascii n.0 in let v = n.1 in omega arith

not_ascii_is : (text : List ℕ) (a : Result Query Fault) → length text ≤ 4096 → all_ascii text ≡ false → IsAnswer text a → a ≡ Err NotAscii
not_ascii_is text (Ok query) h e x = absurd (not_fine text e x.0)
not_ascii_is text (Err TextTooLong) h e x = absurd (omega arith)
not_ascii_is text (Err NotAscii) h e x = refl
not_ascii_is text (Err (BadToken p)) h e x = absurd (not_fine text e x.0)
not_ascii_is text (Err (Unexpected p)) h e x = absurd (not_fine text e x.0)
not_ascii_is text (Err (NumberRange p)) h e x = absurd (not_fine text e x.0)
not_ascii_is text (Err (TooDeep p)) h e x = absurd (not_fine text e x.0)

pub reading_only : (text : List ℕ) (a : Result Query Fault) → IsAnswer text a → a ≡ reading text
reading_only text a x = elim (judge text) [
  | inl l ↦ too_long_is text a l x ∙ sym (reading_long text l)
  | inr (inl f) ↦ not_ascii_is text a f.0 f.1 x ∙ sym (reading_not_ascii text f.0 f.1)
  | inr (inr t) ↦ one_final text a (parsed (scan_from text 0)) (fine_text text t.0 t.1) x (final_parsed text) ∙ sym (reading_fine text t.0 t.1)
]

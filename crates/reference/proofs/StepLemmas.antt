-- What a call answers, by the first test that it fails.
use Rattle.std.proofs.Common.{◌≡◌, Bool, true, false, Option, Some, None, List, [], ◌∷◌, ◌++◌, Result, Ok, Err, refl, sym, ap, ap₂, subst, ◌∙◌, set, get_or, length, ◌<◌, ℕ, zero, suc, ◌+◌, map, arith, OnOk, OnErr, take, drop, min}
use Rattle.std.proofs.lemmas.List.{map-append}
use Rattle.std.proofs.lemmas.Grind.{take-set_at}
use Rattle.values.specs.Row.{Row}
use Rattle.std.specs.Prelude.{slice_get, option_and_then}
use Rattle.reference.specs.Machine.{Stream, Registered, unless_dropped}
use Rattle.reference.specs.declared.standing.StandingQuery.{StandingQuery}
use Rattle.reference.specs.Standing.{query_of, waiting_of, upto_of, fresh_of}
use Rattle.reference.specs.declared.fault.Fault.{Fault}
use Rattle.reference.specs.declared.fault.Fault.TheVariants.{Query, BadName, NameTaken, BadColumns, TooMany, UnknownStream, UnknownQuery, BadWidth, ValueRange, InstantRange, Late, Backward, Leap, StreamFull, BadLimit, Broken, UnknownLease, Stranger, TooManyLeases, HistoryFull, OutOfMemory, Foreign}
use Rattle.reference.specs.declared.fault.QueryFault.{QueryFault}
use Rattle.reference.specs.Commands.{Found, change, query_tests, of_stream, of_query}
use Rattle.names.specs.Faults.{first_of}
use Rattle.reference.specs.Finds.{Finds}
use Rattle.reference.specs.Told.{IsTold}
use Rattle.reference.specs.World.{World, unless, Does, Looks, MayLackMemory}

module _ {A B : Type 0} (view : A → B) (w new : World) (a : B) where
  told : (f : Fault) → IsTold f → Does view w (unless (Some f) w a new) (Err f) w
  told (Query fault) t = refl
  told BadName t = refl
  told NameTaken t = refl
  told BadColumns t = refl
  told TooMany t = refl
  told UnknownStream t = refl
  told UnknownQuery t = refl
  told BadWidth t = refl
  told ValueRange t = refl
  told InstantRange t = refl
  told Late t = refl
  told Backward t = refl
  told Leap t = refl
  told StreamFull t = refl
  told BadLimit t = refl
  told Broken t = refl
  told UnknownLease t = refl
  told Stranger t = refl
  told HistoryFull t = refl
  told (Foreign entries) t = refl
  told TooManyLeases t = refl
  told OutOfMemory t = absurd t

  pub refused : (first : Option Fault) (f : Fault) → Some f ≡ first → IsTold f → Does view w (unless first w a new) (Err f) w
  refused first f e t = subst (λ (o : Option Fault). Does view w (unless o w a new) (Err f) w) e (told f t)

  pub done : (first : Option Fault) (r : A) (w' : World) → None ≡ first → view r ≡ a → w' ≡ new → Does view w (unless first w a new) (Ok r) w'
  done first r w' e v n = rw (sym e, v, n) refl

  pub lacked : (first : Option Fault) (w' : World) → None ≡ first → w' ≡ w → Does view w (unless first w a new) (Err OutOfMemory) w'
  lacked first w' e n = rw (sym e) (n, tt)

  -- the tests before those of a query's text
  passed : (tests more : List (Bool × Fault)) → first_of tests ≡ None → first_of (tests ++ more) ≡ first_of more
  passed [] more h = refl
  passed ((true, f) ∷ tests) more h = cc
  passed ((false, f) ∷ tests) more h = passed tests more h

  stopped : (tests more : List (Bool × Fault)) (f : Fault) → first_of tests ≡ Some f → first_of (tests ++ more) ≡ Some f
  stopped [] more f h = cc
  stopped ((true, g) ∷ tests) more f h = h
  stopped ((false, g) ∷ tests) more f h = stopped tests more f h

  pub refused_before : (tests more : List (Bool × Fault)) (f : Fault) → Some f ≡ first_of tests → IsTold f → Does view w (unless (first_of (tests ++ more)) w a new) (Err f) w
  refused_before tests more f e t = refused (first_of (tests ++ more)) f (sym (stopped tests more f (sym e))) t

  short : (found : Result Found QueryFault) → MayLackMemory (unless (first_of (query_tests found)) w a new).0
  short (Ok f) = tt
  short (Err fault) = tt

  not_found : (found : Result Found QueryFault) (f : Fault) → Finds found (Err f) → Does view w (unless (first_of (query_tests found)) w a new) (Err f) w
  not_found found (Query fault) h = rw h refl
  not_found found OutOfMemory h = (refl, short found)
  not_found found BadName h = absurd h
  not_found found NameTaken h = absurd h
  not_found found BadColumns h = absurd h
  not_found found TooMany h = absurd h
  not_found found UnknownStream h = absurd h
  not_found found UnknownQuery h = absurd h
  not_found found BadWidth h = absurd h
  not_found found ValueRange h = absurd h
  not_found found InstantRange h = absurd h
  not_found found Late h = absurd h
  not_found found Backward h = absurd h
  not_found found Leap h = absurd h
  not_found found StreamFull h = absurd h
  not_found found BadLimit h = absurd h
  not_found found Broken h = absurd h
  not_found found UnknownLease h = absurd h
  not_found found Stranger h = absurd h
  not_found found HistoryFull h = absurd h
  not_found found (Foreign entries) h = absurd h
  not_found found TooManyLeases h = absurd h

  pub refused_text : (tests : List (Bool × Fault)) (found : Result Found QueryFault) (f : Fault) → None ≡ first_of tests → Finds found (Err f)
      → Does view w (unless (first_of (tests ++ query_tests found)) w a new) (Err f) w
  refused_text tests found f e h =
      subst (λ (o : Option Fault). Does view w (unless o w a new) (Err f) w) (sym (passed tests (query_tests found) (sym e))) (not_found found f h)

  pub registered_first : (tests : List (Bool × Fault)) (found : Result Found QueryFault) (f : Found) → None ≡ first_of tests → found ≡ Ok f
      → None ≡ first_of (tests ++ query_tests found)
  registered_first tests found f e h = sym (passed tests (query_tests found) (sym e) ∙ ap (λ o. first_of (query_tests o)) h)

-- a look, by the first test that it fails
module _ {A B : Type 0} (view : A → B) (w new : World) (a : B) where
  looks_told : (f : Fault) → IsTold f → Looks view (unless (Some f) w a new).0 (Err f)
  looks_told (Query fault) t = refl
  looks_told BadName t = refl
  looks_told NameTaken t = refl
  looks_told BadColumns t = refl
  looks_told TooMany t = refl
  looks_told UnknownStream t = refl
  looks_told UnknownQuery t = refl
  looks_told BadWidth t = refl
  looks_told ValueRange t = refl
  looks_told InstantRange t = refl
  looks_told Late t = refl
  looks_told Backward t = refl
  looks_told Leap t = refl
  looks_told StreamFull t = refl
  looks_told BadLimit t = refl
  looks_told Broken t = refl
  looks_told UnknownLease t = refl
  looks_told Stranger t = refl
  looks_told HistoryFull t = refl
  looks_told (Foreign entries) t = refl
  looks_told TooManyLeases t = refl
  looks_told OutOfMemory t = absurd t

  pub look_refused : (first : Option Fault) (f : Fault) → Some f ≡ first → IsTold f → Looks view (unless first w a new).0 (Err f)
  look_refused first f e t = subst (λ (o : Option Fault). Looks view (unless o w a new).0 (Err f)) e (looks_told f t)

  pub look_done : (first : Option Fault) (r : A) → None ≡ first → view r ≡ a → Looks view (unless first w a new).0 (Ok r)
  look_done first r e v = rw (sym e, v) refl

  pub look_lacked : (first : Option Fault) → None ≡ first → Looks view (unless first w a new).0 (Err OutOfMemory)
  look_lacked first e = rw (sym e) tt

-- the world of streams and queries
abbrev pub made : List Stream → List StandingQuery → World
made streams qs = record { machine = record { streams = streams; queries = map query_of qs }; waiting = map waiting_of qs; upto = map upto_of qs }

-- an item changed in its place
pub set-change : {X Y : Type 0} (v : X → Y) (f : Y → Y) (xs : List X) (n : ℕ) (x d : X) → n < length xs → v x ≡ f (v (get_or xs n d)) → map v (set xs n x) ≡ change n f (map v xs)
set-change v f [] n x d lt h = absurd (omega arith)
set-change v f (y ∷ xs) zero x d lt h = ap (λ z. z ∷ map v xs) h
set-change v f (y ∷ xs) (suc n) x d lt h = ap (λ zs. v y ∷ zs) (set-change v f xs n x d (omega arith) h)

pub set-change_self : {X : Type 0} (f : X → X) (xs : List X) (n : ℕ) (x d : X) → n < length xs → x ≡ f (get_or xs n d) → set xs n x ≡ change n f xs
set-change_self f [] n x d lt h = absurd (omega arith)
set-change_self f (y ∷ xs) zero x d lt h = ap (λ z. z ∷ xs) h
set-change_self f (y ∷ xs) (suc n) x d lt h = ap (λ zs. y ∷ zs) (set-change_self f xs n x d (omega arith) h)

pub on_ok : {A E P Q : Type 0} → (r : Result A E) → (P → Q) → OnOk r P → OnOk r Q
on_ok (Ok v) f h = f h
on_ok (Err e) f h = tt

pub on_err : {A E P Q : Type 0} → (r : Result A E) → (P → Q) → OnErr r P → OnErr r Q
on_err (Ok v) f h = tt
on_err (Err e) f h = f h

pub get_or-map : {X Y : Type 0} (v : X → Y) (xs : List X) (n : ℕ) (d : X) (e : Y) → n < length xs → get_or (map v xs) n e ≡ v (get_or xs n d)
get_or-map v [] n d e lt = absurd (omega arith)
get_or-map v (x ∷ xs) zero d e lt = refl
get_or-map v (x ∷ xs) (suc n) d e lt = get_or-map v xs n d e (omega arith)

-- one query more was evaluated
pub evaluated : (u : Registered → List (ℕ × Row)) (qs : List StandingQuery) (i : ℕ) (x d : StandingQuery) → i < length qs
    → query_of x ≡ query_of (get_or qs i d) → fresh_of x ≡ u (query_of (get_or qs i d))
    → map fresh_of (take i qs) ≡ map u (map query_of (take i qs))
    → map fresh_of (take (i + 1) (set qs i x)) ≡ map u (map query_of (take (i + 1) (set qs i x)))
evaluated u qs i x d lt same shown before =
    let taken : take (i + 1) (set qs i x) ≡ take i qs ++ x ∷ [] = take-set_at qs i (i + 1) x refl lt in
    let now : fresh_of x ≡ u (query_of x) = shown ∙ ap u (sym same) in
    rw taken
    (map-append fresh_of (take i qs) (x ∷ [])
    ∙ ap (λ rows. rows ++ fresh_of x ∷ []) before
    ∙ ap (λ rows. map u (map query_of (take i qs)) ++ rows ∷ []) now
    ∙ sym (ap (map u) (map-append query_of (take i qs) (x ∷ [])) ∙ map-append u (map query_of (take i qs)) (query_of x ∷ [])))

-- one query more was refreshed, of which the first are, and the others stand as they stood
pub refreshed : (qs old : List StandingQuery) (i : ℕ) (x d : StandingQuery) → i < length qs → waiting_of x ≡ fresh_of (get_or qs i d)
    → map waiting_of (take i qs) ≡ map fresh_of (take i old) → drop i qs ≡ drop i old
    → (map waiting_of (take (suc i) (set qs i x)) ≡ map fresh_of (take (suc i) old)) × (drop (suc i) (set qs i x) ≡ drop (suc i) old)
refreshed [] old i x d lt now before rest = absurd (omega arith)
refreshed (q ∷ qs) [] zero x d lt now before rest = cc
refreshed (q ∷ qs) (p ∷ old) zero x d lt now before rest = (cc, cc)
refreshed (q ∷ qs) [] (suc i) x d lt now before rest = cc
refreshed (q ∷ qs) (p ∷ old) (suc i) x d lt now before rest =
    let tails : map waiting_of (take i qs) ≡ map fresh_of (take i old) = cc in
    let more = refreshed qs old i x d (omega arith) now tails rest in
    let head : waiting_of q ≡ fresh_of p = cc in
    (ap (λ r. r ∷ map waiting_of (take (suc i) (set qs i x))) head ∙ ap (λ rs. fresh_of p ∷ rs) more.0, more.1)

-- one query more is complete up to where its answers are closed, and the others stand as they stood
pub reached : (u : Registered → ℕ) (qs old : List StandingQuery) (i : ℕ) (x d : StandingQuery) → i < length qs → upto_of x ≡ u (query_of (get_or qs i d))
    → map upto_of (take i qs) ≡ map u (map query_of (take i old)) → drop i qs ≡ drop i old
    → map upto_of (take (suc i) (set qs i x)) ≡ map u (map query_of (take (suc i) old))
reached u [] old i x d lt now before rest = absurd (omega arith)
reached u (q ∷ qs) [] zero x d lt now before rest = cc
reached u (q ∷ qs) (p ∷ old) zero x d lt now before rest = cc
reached u (q ∷ qs) [] (suc i) x d lt now before rest = cc
reached u (q ∷ qs) (p ∷ old) (suc i) x d lt now before rest =
    let tails : map upto_of (take i qs) ≡ map u (map query_of (take i old)) = cc in
    let head : upto_of q ≡ u (query_of p) = cc in
    ap₂ (λ (n : ℕ) (ns : List ℕ). n ∷ ns) head (reached u qs old i x d (omega arith) now tails rest)

-- how many answers a take hands out
pub handed_count : (qs : List StandingQuery) (n limit : ℕ) (d : StandingQuery) → n < length qs
    → min limit (length (waiting_of (get_or qs n d))) ≡ min limit (length (get_or (map waiting_of qs) n []))
handed_count qs n limit d lt = ap (λ rows. min limit (length rows)) (sym (get_or-map waiting_of qs n d [] lt))

-- an accepted call names a stream, or a query
pub stream_in : (tests : Stream → List (Bool × Fault)) (xs : List Stream) (n : ℕ) → of_stream tests (slice_get xs n) ≡ None → n < length xs
stream_in tests [] n h = cc
stream_in tests (x ∷ xs) zero h = omega arith
stream_in tests (x ∷ xs) (suc n) h = let k = stream_in tests xs n h in omega arith

pub query_in : (tests : List (Bool × Fault)) (qs : List StandingQuery) (n : ℕ) → of_query tests (option_and_then unless_dropped (slice_get (map query_of qs) n)) ≡ None → n < length qs
query_in tests [] n h = cc
query_in tests (x ∷ xs) zero h = omega arith
query_in tests (x ∷ xs) (suc n) h = let k = query_in tests xs n h in omega arith

-- a query more
pub registered_world : (streams : List Stream) (qs : List StandingQuery) (x : StandingQuery) (r : Registered) (end : ℕ) → query_of x ≡ r → waiting_of x ≡ [] → upto_of x ≡ end
    → made streams (qs ++ x ∷ []) ≡ record { machine = record { streams = streams; queries = map query_of qs ++ r ∷ [] }; waiting = map waiting_of qs ++ [] ∷ []; upto = map upto_of qs ++ end ∷ [] }
registered_world streams qs x r end named none first =
    let one : List Registered → World = λ v. record { machine = record { streams = streams; queries = v }; waiting = map waiting_of (qs ++ x ∷ []); upto = map upto_of (qs ++ x ∷ []) } in
    let two : List (List (ℕ × Row)) → World = λ v. record { machine = record { streams = streams; queries = map query_of qs ++ r ∷ [] }; waiting = v; upto = map upto_of (qs ++ x ∷ []) } in
    let three : List ℕ → World = λ v. record { machine = record { streams = streams; queries = map query_of qs ++ r ∷ [] }; waiting = map waiting_of qs ++ [] ∷ []; upto = v } in
    ap one (map-append query_of qs (x ∷ []) ∙ ap (λ (q : Registered). map query_of qs ++ q ∷ []) named)
    ∙ ap two (map-append waiting_of qs (x ∷ []) ∙ ap (λ (rows : List (ℕ × Row)). map waiting_of qs ++ rows ∷ []) none)
    ∙ ap three (map-append upto_of qs (x ∷ []) ∙ ap (λ (n : ℕ). map upto_of qs ++ n ∷ []) first)

-- What waits at the queries of the plain engine stays what comes next.
use Rattle.std.proofs.Common.{◌≡◌, ℕ, zero, suc, ◌+◌, ◌<◌, ◌≤◌, ◌++◌, Bool, true, false, cond, Some, None, Result, Ok, Err, OnOk, OnErr, List, [], ◌∷◌, length, map, take, drop, get_or, set, refl, sym, ap, ap₂, ◌∙◌, subst, arith}
use Rattle.std.specs.Prelude.{slice_get, option_and_then}
use Rattle.std.specs.List.{AllByRecursion}
use Rattle.std.proofs.lemmas.List.{drop-drop, take-append-drop, take-append-le}
use Rattle.values.specs.Row.{Row}
use Rattle.reference.specs.Commands.{took}
use Rattle.reference.specs.Machine.{Registered, Stream, closed_answers, unless_dropped}
use Rattle.reference.specs.Places.{machine_of}
use Rattle.reference.specs.Standing.{query_of, waiting_of, upto_of}
use Rattle.reference.specs.Waiting.{next_of, next_wait}
use Rattle.reference.specs.World.{WaitingAreNext, untaken}
use Rattle.reference.specs.declared.standing.StandingQuery.{StandingQuery}
use Rattle.reference.proofs.ClosedLemmas.{AreLater, closed_grow}

module _ {X : Type 0} where
  -- the next of a list are the next of a longer one
  drop-longer : (n : ℕ) (xs more : List X) → (rest : List X) × (drop n (xs ++ more) ≡ drop n xs ++ rest)
  drop-longer zero xs more = (more, refl)
  drop-longer (suc n) [] more = (drop (suc n) more, refl)
  drop-longer (suc n) (x ∷ xs) more = drop-longer n xs more

  next_fit : (ws ys : List X) → ws ≡ take (length ws) ys → length ws ≤ length ys
  next_fit [] ys h = omega arith
  next_fit (w ∷ ws) [] h = cc
  next_fit (w ∷ ws) (y ∷ ys) h = let tails : ws ≡ take (length ws) ys = ap (drop 1) h in let l = next_fit ws ys tails in omega (arith, l)

  pub next_of_longer : (n : ℕ) (ws xs more : List X) → ws ≡ take (length ws) (drop n xs) → ws ≡ take (length ws) (drop n (xs ++ more))
  next_of_longer n ws xs more h =
      let r = drop-longer n xs more in
      h ∙ sym (take-append-le (length ws) (drop n xs) r.0 (next_fit ws (drop n xs) h)) ∙ ap (take (length ws)) (sym r.1)

  -- without the first of them the others are next
  take-dropped : (count : ℕ) (ws ys : List X) → ws ≡ take (length ws) ys → drop count ws ≡ take (length (drop count ws)) (drop count ys)
  take-dropped zero ws ys h = h
  take-dropped (suc count) [] ys h = refl
  take-dropped (suc count) (w ∷ ws) [] h = cc
  take-dropped (suc count) (w ∷ ws) (y ∷ ys) h = take-dropped count ws ys (ap (drop 1) h)

  pub next_behind : (n count : ℕ) (ws xs : List X) → ws ≡ take (length ws) (drop n xs) → drop count ws ≡ take (length (drop count ws)) (drop (n + count) xs)
  next_behind n count ws xs h = take-dropped count ws (drop n xs) h ∙ ap (take (length (drop count ws))) (drop-drop count n xs)

  -- all that is left is next
  pub all_next : (ys : List X) → ys ≡ take (length ys) ys
  all_next [] = refl
  all_next (y ∷ ys) = ap (λ zs. y ∷ zs) (all_next ys)

  -- what is next, and the rest
  pub next_and_rest : (ws ys : List X) → ws ≡ take (length ws) ys → ys ≡ ws ++ drop (length ws) ys
  next_and_rest ws ys h = sym (take-append-drop (length ws) ys) ∙ ap (λ zs. zs ++ drop (length ws) ys) (sym h)

-- they are the next of the query's closed answers
abbrev pub IsNext : List Stream → Registered → List (ℕ × Row) → Type 0
IsNext streams q waiting = waiting ≡ next_of streams q (length waiting)

-- so at each query
abbrev pub NextWait : List Stream → List StandingQuery → Type 0
NextWait streams queries = AllByRecursion (λ q. IsNext streams (query_of q) (waiting_of q)) queries

pub wait_each : (ss : List Stream) (qs : List StandingQuery) → map waiting_of qs ≡ next_wait ss qs → NextWait ss qs
wait_each ss [] h = tt
wait_each ss (q ∷ qs) h = (cc, wait_each ss qs (ap (drop 1) h))

pub wait_all : (ss : List Stream) (qs : List StandingQuery) → NextWait ss qs → map waiting_of qs ≡ next_wait ss qs
wait_all ss [] h = refl
wait_all ss (q ∷ qs) h = ap₂ (λ w ws. w ∷ ws) h.0 (wait_all ss qs h.1)

-- at each query, where the streams stand later
pub later_wait : (ss ts : List Stream) → AreLater ss ts → (qs : List StandingQuery) → NextWait ss qs → NextWait ts qs
later_wait ss ts later [] h = tt
later_wait ss ts later (q ∷ qs) h =
    let more = closed_grow ss ts later (query_of q) in (
      next_of_longer q.taken (waiting_of q) (closed_answers (machine_of ss) (query_of q)) more.0 h.0
          ∙ ap (λ es. take (length (waiting_of q)) (drop q.taken es)) (sym more.1),
      later_wait ss ts later qs h.1,
    )

-- one query more, at which nothing waits
pub pushed_wait : (ss : List Stream) (qs : List StandingQuery) (q : StandingQuery) → waiting_of q ≡ [] → NextWait ss qs → NextWait ss (qs ++ q ∷ [])
pushed_wait ss [] q none h = (subst (λ ws. IsNext ss (query_of q) ws) (sym none) refl, tt)
pushed_wait ss (p ∷ qs) q none h = (h.0, pushed_wait ss qs q none h.1)

-- one query changed
pub set_wait : (ss : List Stream) (qs : List StandingQuery) (n : ℕ) (x d : StandingQuery) → n < length qs
    → (IsNext ss (query_of (get_or qs n d)) (waiting_of (get_or qs n d)) → IsNext ss (query_of x) (waiting_of x)) → NextWait ss qs → NextWait ss (set qs n x)
set_wait ss [] n x d lt f h = absurd (omega (arith, lt))
set_wait ss (q ∷ qs) zero x d lt f h = (f h.0, h.1)
set_wait ss (q ∷ qs) (suc n) x d lt f h = (h.0, set_wait ss qs n x d (omega (arith, lt)) f h.1)

-- a query of which the first answers that wait are taken
pub taken_wait : (ss : List Stream) (x d : StandingQuery) (count : ℕ) → query_of x ≡ took count (query_of d) → waiting_of x ≡ drop count (waiting_of d)
    → IsNext ss (query_of d) (waiting_of d) → IsNext ss (query_of x) (waiting_of x)
taken_wait ss x d count query waiting h =
    subst (λ (r : Registered). IsNext ss r (waiting_of x)) (sym query)
    (subst (λ ws. IsNext ss (took count (query_of d)) ws) (sym waiting)
    (next_behind d.taken count (waiting_of d) (closed_answers (machine_of ss) (query_of d)) h))

pub on_ok₂ : {A E P Q R : Type 0} → (r : Result A E) → (P → Q → R) → OnOk r P → OnOk r Q → OnOk r R
on_ok₂ (Ok v) f h k = f h k
on_ok₂ (Err e) f h k = tt

pub on_err₂ : {A E P Q R : Type 0} → (r : Result A E) → (P → Q → R) → OnErr r P → OnErr r Q → OnErr r R
on_err₂ (Ok v) f h k = tt
on_err₂ (Err e) f h k = f h k

pub set_unchanged : {X : Type 0} (xs : List X) (n : ℕ) (x d : X) → x ≡ get_or xs n d → set xs n x ≡ xs
set_unchanged [] n x d h = refl
set_unchanged (y ∷ xs) zero x d h = ap (λ z. z ∷ xs) h
set_unchanged (y ∷ xs) (suc n) x d h = ap (λ zs. y ∷ zs) (set_unchanged xs n x d h)

-- queries that are the same to the machine, and at which the same waits
pub same_wait : (ss : List Stream) (new old : List StandingQuery) → map query_of new ≡ map query_of old → map waiting_of new ≡ map waiting_of old → NextWait ss old → NextWait ss new
same_wait ss [] [] q w h = tt
same_wait ss [] (o ∷ old) q w h = tt
same_wait ss (n ∷ new) [] q w h = cc
same_wait ss (n ∷ new) (o ∷ old) q w h =
    let first : query_of n ≡ query_of o = cc in
    let waits : waiting_of n ≡ waiting_of o = cc in
    let others : map query_of new ≡ map query_of old = ap (drop 1) q in
    let wait_too : map waiting_of new ≡ map waiting_of old = ap (drop 1) w in
    (subst (λ (r : Registered). IsNext ss r (waiting_of n)) (sym first) (subst (λ ws. IsNext ss (query_of o) ws) (sym waits) h.0), same_wait ss new old others wait_too h.1)

-- all that is not yet taken waits
untaken_next : (ss : List Stream) (q : Registered) → IsNext ss q (untaken (machine_of ss) q)
untaken_next ss q = here q.is_dropped
  where
    here : (b : Bool) → IsNext ss q (cond b [] (drop q.taken (closed_answers (machine_of ss) q)))
    here true = refl
    here false = all_next (drop q.taken (closed_answers (machine_of ss) q))

pub drained_wait : (ss : List Stream) (qs : List StandingQuery) → map waiting_of qs ≡ map (untaken (machine_of ss)) (map query_of qs) → NextWait ss qs
drained_wait ss [] h = tt
drained_wait ss (q ∷ qs) h =
    let first : waiting_of q ≡ untaken (machine_of ss) (query_of q) = cc in
    let others : map waiting_of qs ≡ map (untaken (machine_of ss)) (map query_of qs) = ap (drop 1) h in
    (subst (λ ws. IsNext ss (query_of q) ws) (sym first) (untaken_next ss (query_of q)), drained_wait ss qs others)

-- SO AT EACH QUERY the next of its closed answers wait
found_live : (r q : Registered) → unless_dropped r ≡ Some q → r ≡ q
found_live r q h = here r.is_dropped h
  where
    here : (b : Bool) → cond b None (Some r) ≡ Some q → r ≡ q
    here true e = cc
    here false e = cc

at_query : (ss : List Stream) (qs : List StandingQuery) → NextWait ss qs → (n : ℕ) (q : Registered) → option_and_then unless_dropped (slice_get (map query_of qs) n) ≡ Some q
    → IsNext ss q (get_or (map waiting_of qs) n [])
at_query ss [] h n q is = cc
at_query ss (p ∷ qs) h zero q is = subst (λ (r : Registered). IsNext ss r (waiting_of p)) (found_live (query_of p) q is) h.0
at_query ss (p ∷ qs) h (suc n) q is = at_query ss qs h.1 n q is

pub waiting_are_next : (ss : List Stream) (qs : List StandingQuery) → NextWait ss qs → WaitingAreNext (record { machine = record { streams = ss; queries = map query_of qs }; waiting = map waiting_of qs; upto = map upto_of qs })
waiting_are_next ss qs h = λ n q is.
    let ws = get_or (map waiting_of qs) n [] in
    let ys = drop q.taken (closed_answers (machine_of ss) q) in
    (drop (length ws) ys, next_and_rest ws ys (at_query ss qs h n q is))

-- What waits of a broken query comes next over all that ever came.
use Rattle.std.proofs.Common.{◌≡◌, ◌≢◌, ℕ, zero, suc, ◌+◌, ◌<◌, ◌≤◌, ◌++◌, Bool, true, false, cond, ⊎_elim, Some, None, Result, Ok, Err, List, [], ◌∷◌, drop, get_or, length, set, refl, sym, ap, ◌∙◌, subst, append_assoc, arith}
use Rattle.std.specs.Prelude.{slice_get}
use Rattle.std.proofs.lemmas.List.{drop-drop}
use Rattle.values.specs.Row.{Row}
use Rattle.reference.specs.declared.fault.QueryFault.{QueryFault}
use Rattle.reference.specs.Commands.{Append, Command, Declare, Drop, Found, Heartbeat, Register, Take, after, change, dropped, first_fault, found, registered, registered_as, took}
use Rattle.reference.specs.Machine.{Machine, Registered, closed_answers}
use Rattle.reference.specs.World.{untaken}
use Rattle.reference.proofs.ClosedLemmas.{AreLater, appended_later, closed_grow, closed_later, pushed_later}
use Rattle.reference.proofs.StreamLemmas.{alone}
use Rattle.laws_queries.specs.Plain.{PlainQuery}
use Rattle.laws_queries.proofs.BeatLemmas.{same_number}
use Rattle.laws_engine.specs.Calls.{remains_after}
use Rattle.laws_engine.specs.Engines.{Broken, Dropped, PlainEngine, PlainRemains, Running, answers_in, remains_at}
use Rattle.laws_engine.specs.Histories.{IsCommandStep}
use Rattle.laws_engine.specs.Remembered.{handed_by}
use Rattle.laws_engine.proofs.TakeLemmas.{Was, changed_here, changed_or_here, changed_or_there, changed_there, was}

-- WHAT COMES FIRST
abbrev pub Begins : List (ℕ × Row) → List (ℕ × Row) → Type 0
Begins ws ys = (rest : List (ℕ × Row)) × (ys ≡ ws ++ rest)

-- of a longer list the same is first
drop_longer : (n : ℕ) (xs more : List (ℕ × Row)) → (rest : List (ℕ × Row)) × (drop n (xs ++ more) ≡ drop n xs ++ rest)
drop_longer zero xs more = (more, refl)
drop_longer (suc n) [] more = (drop (suc n) more, refl)
drop_longer (suc n) (x ∷ xs) more = drop_longer n xs more

-- without its first ones the others are
drop_within : (n : ℕ) (xs more : List (ℕ × Row)) → n ≤ length xs → drop n (xs ++ more) ≡ drop n xs ++ more
drop_within zero xs more h = refl
drop_within (suc n) [] more h = absurd (omega (arith, h))
drop_within (suc n) (x ∷ xs) more h = drop_within n xs more (omega (arith, h))

-- of none nothing is
drop_none : (n : ℕ) (ws rest : List (ℕ × Row)) → [] ≡ ws ++ rest → Begins (drop n ws) []
drop_none zero [] rest h = ([], refl)
drop_none (suc n) [] rest h = ([], refl)
drop_none n (w ∷ ws) rest h = absurd (cc)

-- THE ANSWERS OF A QUERY begin as they did where the streams stand later
module _ (m : Machine) (q : Registered) (ws : List (ℕ × Row)) where
  later_by : (m2 : Machine) → AreLater m.streams m2.streams → (b : Bool) → Begins ws (cond b [] (drop q.taken (closed_answers m q))) → Begins ws (cond b [] (drop q.taken (closed_answers m2 q)))
  later_by m2 later true h = h
  later_by m2 later false h =
      let more = closed_grow m.streams m2.streams later q in
      let r = drop_longer q.taken (closed_answers m q) more.0 in
      (h.0 ++ r.0, ap (drop q.taken) more.1 ∙ r.1 ∙ ap (λ z. z ++ r.0) h.1 ∙ append_assoc ws h.0 r.0)

  begins_later : (m2 : Machine) → AreLater m.streams m2.streams → Begins ws (untaken m q) → Begins ws (untaken m2 q)
  begins_later m2 later h = later_by m2 later q.is_dropped h

  -- and where its first ones were taken
  took_by : (count : ℕ) → count ≤ length ws → (b : Bool) → Begins ws (cond b [] (drop q.taken (closed_answers m q))) → Begins (drop count ws) (cond b [] (drop (q.taken + count) (closed_answers m q)))
  took_by count few true h = drop_none count ws h.0 h.1
  took_by count few false h =
      (h.0, sym (drop-drop count q.taken (closed_answers m q)) ∙ ap (drop count) h.1 ∙ drop_within count ws h.0 few)

  begins_behind : (count : ℕ) (qs : List Registered) → count ≤ length ws → Begins ws (untaken m q) → Begins (drop count ws) (untaken (record m { queries = qs }) (took count q))
  begins_behind count qs few h = took_by count few q.is_dropped h

-- WHO IS BROKEN behind a call was so before it
running_not : (p : PlainQuery) (answers : List (ℕ × Row)) (upto : ℕ) → Running p ≡ Broken answers upto → ⊥
running_not p answers upto h = cc

dropped_not : (answers : List (ℕ × Row)) (upto : ℕ) → Dropped ≡ Broken answers upto → ⊥
dropped_not answers upto h = cc

pushed_before : (p : PlainQuery) (ks : List PlainRemains) (n : ℕ) (answers : List (ℕ × Row)) (upto : ℕ) → get_or (ks ++ Running p ∷ []) n Dropped ≡ Broken answers upto → get_or ks n Dropped ≡ Broken answers upto
pushed_before p [] zero answers upto h = absurd (running_not p answers upto h)
pushed_before p [] (suc n) answers upto h = absurd (dropped_not answers upto h)
pushed_before p (k ∷ ks) zero answers upto h = h
pushed_before p (k ∷ ks) (suc n) answers upto h = pushed_before p ks n answers upto h

pub set_before : (p : PlainQuery) (ks : List PlainRemains) (i n : ℕ) (answers : List (ℕ × Row)) (upto : ℕ) → get_or (set ks i (Running p)) n Dropped ≡ Broken answers upto → get_or ks n Dropped ≡ Broken answers upto
set_before p [] i n answers upto h = h
set_before p (k ∷ ks) zero zero answers upto h = absurd (running_not p answers upto h)
set_before p (k ∷ ks) zero (suc n) answers upto h = h
set_before p (k ∷ ks) (suc i) zero answers upto h = h
set_before p (k ∷ ks) (suc i) (suc n) answers upto h = set_before p ks i n answers upto h

-- or is the one that the call broke
pub set_broken : (x : PlainRemains) (ks : List PlainRemains) (i n : ℕ) → n ≢ i → get_or (set ks i x) n Dropped ≡ get_or ks n Dropped
set_broken x [] i n ne = refl
set_broken x (k ∷ ks) zero zero ne = absurd (ne refl)
set_broken x (k ∷ ks) zero (suc n) ne = refl
set_broken x (k ∷ ks) (suc i) zero ne = refl
set_broken x (k ∷ ks) (suc i) (suc n) ne = set_broken x ks i n (λ e. ne (ap suc e))

pub set_itself : (x : PlainRemains) (ks : List PlainRemains) (i : ℕ) → i < length ks → get_or (set ks i x) i Dropped ≡ x
set_itself x [] i h = absurd (omega (arith, h))
set_itself x (k ∷ ks) zero h = refl
set_itself x (k ∷ ks) (suc i) h = set_itself x ks i (omega (arith, h))

pub broken_within : (ks : List PlainRemains) (n : ℕ) (answers : List (ℕ × Row)) (upto : ℕ) → get_or ks n Dropped ≡ Broken answers upto → n < length ks
broken_within [] n answers upto h = absurd (dropped_not answers upto h)
broken_within (k ∷ ks) zero answers upto h = omega arith
broken_within (k ∷ ks) (suc n) answers upto h = omega (arith, broken_within ks n answers upto h)

pub running_within : (ks : List PlainRemains) (n : ℕ) (p : PlainQuery) → get_or ks n Dropped ≡ Running p → n < length ks
running_within [] n p h = absurd (cc)
running_within (k ∷ ks) zero p h = omega arith
running_within (k ∷ ks) (suc n) p h = omega (arith, running_within ks n p h)

pushed_at : (qs : List Registered) (x : Registered) (n : ℕ) → n < length qs → slice_get (qs ++ x ∷ []) n ≡ slice_get qs n
pushed_at [] x n h = absurd (omega (arith, h))
pushed_at (q ∷ qs) x zero h = refl
pushed_at (q ∷ qs) x (suc n) h = pushed_at qs x n (omega (arith, h))

-- of one that is broken behind a take this was left
record WasBroken (count : ℕ) (k : PlainRemains) (answers : List (ℕ × Row)) (upto : ℕ) : Type 0 where
  old : List (ℕ × Row)
  is : k ≡ Broken old upto
  left : answers ≡ drop count old

was_broken : (count : ℕ) (k : PlainRemains) (answers : List (ℕ × Row)) (upto : ℕ) → remains_after count k ≡ Broken answers upto → WasBroken count k answers upto
was_broken count (Running p) answers upto h = absurd (running_not (record p { answers = drop count p.answers }) answers upto h)
was_broken count (Broken old till) answers upto h =
    let same : till ≡ upto = cc in
    let left : drop count old ≡ answers = cc in
    record { old = old; is = ap (Broken old) same; left = sym left }
was_broken count Dropped answers upto h = absurd (dropped_not answers upto h)

-- THE BROKEN QUERIES: what waits of each comes first of what the machine has yet to give
abbrev pub BrokenBegin : PlainEngine → Machine → Type 0
BrokenBegin e m = (n : ℕ) (q : Registered) (answers : List (ℕ × Row)) (upto : ℕ) → slice_get m.queries n ≡ Some q → remains_at e n ≡ Broken answers upto → Begins answers (untaken m q)

-- a machine with one query more
registered_begins : (m : Machine) (name : List ℕ) (o : Result Found QueryFault) (n : ℕ) (q : Registered) (answers : List (ℕ × Row)) → n < length m.queries → slice_get (registered m name o).queries n ≡ Some q
    → ((r : Registered) → slice_get m.queries n ≡ Some r → Begins answers (untaken m r)) → Begins answers (untaken (registered m name o) q)
registered_begins m name (Ok f) n q answers few here h = h q (sym (pushed_at m.queries (registered_as m name f) n few) ∙ here)
registered_begins m name (Err fault) n q answers few here h = h q here

module _ (e : PlainEngine) (m : Machine) (many : length e.queries ≡ length m.queries) (h : BrokenBegin e m) where
  -- as they were
  still : (ks : List PlainRemains) (e2 : PlainEngine) (n : ℕ) (answers : List (ℕ × Row)) (upto : ℕ) → e2.queries ≡ ks → remains_at e2 n ≡ Broken answers upto → get_or ks n Dropped ≡ Broken answers upto
  still ks e2 n answers upto same r = sym (ap (λ z. get_or z n Dropped) same) ∙ r

  pub told_broken : (e2 : PlainEngine) (c : Command) → IsCommandStep e c e2 → first_fault m c ≡ None → BrokenBegin e2 (after m c (handed_by e c))
  told_broken e2 (Declare name columns start) t accepted n q answers upto here left =
      begins_later m q answers (after m (Declare name columns start) 0) (pushed_later m.streams _) (h n q answers upto here (still e.queries e2 n answers upto (ap (λ (z : PlainEngine). z.queries) t.1) left))
  told_broken e2 (Register name text chart) t accepted n q answers upto here left =
      let before = pushed_before t.1.0 e.queries n answers upto (still (e.queries ++ Running t.1.0 ∷ []) e2 n answers upto (ap (λ (z : PlainEngine). z.queries) t.1.1.1) left) in
      registered_begins m name (found m text chart) n q answers (omega (arith, many, broken_within e.queries n answers upto before)) here (λ r at. h n r answers upto at before)
  told_broken e2 (Append s rows) t accepted n q answers upto here left =
      begins_later m q answers (after m (Append s rows) 0) (appended_later m.streams s rows (alone m.queries s rows (slice_get m.streams s) accepted)) (h n q answers upto here (still e.queries e2 n answers upto (ap (λ (z : PlainEngine). z.queries) t.1) left))
  told_broken e2 (Heartbeat s at) t accepted n q answers upto here left =
      begins_later m q answers (after m (Heartbeat s at) 0) (closed_later m.streams s at accepted) (h n q answers upto here (still e.queries e2 n answers upto (ap (λ (z : PlainEngine). z.queries) t.1) left))
  told_broken e2 (Take k limit) t accepted n q answers upto here left = ⊎_elim
      (λ same.
      let count : ℕ = handed_by e (Take k limit) in
      let w : Was (took count) (slice_get m.queries k) q = was (took count) _ q (sym (changed_here (took count) k m.queries) ∙ ap (slice_get (change k (took count) m.queries)) (sym same) ∙ here) in
      let b : WasBroken count (remains_at e k) answers upto = was_broken count (remains_at e k) answers upto
      (ap (λ c. remains_after c (remains_at e k)) (sym t.1.0.many) ∙ sym (changed_or_here (remains_after t.0) k e.queries Dropped refl) ∙ ap (λ i. get_or (change k (remains_after t.0) e.queries) i Dropped) (sym same) ∙ now t n answers upto left) in
      let few : count ≤ length b.old = omega (arith, ap (λ z. length (answers_in z)) b.is) in
      subst (λ z. Begins z (untaken (after m (Take k limit) count) q)) (sym b.left)
      (subst (λ z. Begins (drop count b.old) (untaken (after m (Take k limit) count) z)) (sym w.new)
      (begins_behind m w.old b.old count (change k (took count) m.queries) few (h k w.old b.old upto w.is b.is))))
      (λ ne. h n q answers upto (sym (changed_there (took (handed_by e (Take k limit))) k n m.queries ne) ∙ here)
      (sym (changed_or_there (remains_after t.0) k n e.queries Dropped ne) ∙ now t n answers upto left))
      (same_number n k)
    where
      now : (t : IsCommandStep e (Take k limit) e2) (n : ℕ) (answers : List (ℕ × Row)) (upto : ℕ) → remains_at e2 n ≡ Broken answers upto → get_or (change k (remains_after t.0) e.queries) n Dropped ≡ Broken answers upto
      now t n answers upto left = still (change k (remains_after t.0) e.queries) e2 n answers upto (ap (λ (z : PlainEngine). z.queries) t.1.1) left
  told_broken e2 (Drop k) t accepted n q answers upto here left = ⊎_elim
      (λ same. absurd (dropped_not answers upto (sym (changed_or_here (λ (r : PlainRemains). Dropped) k e.queries Dropped refl) ∙ ap (λ i. get_or (change k (λ (r : PlainRemains). Dropped) e.queries) i Dropped) (sym same) ∙ still (change k (λ (r : PlainRemains). Dropped) e.queries) e2 n answers upto (ap (λ (z : PlainEngine). z.queries) t.1) left)))
      (λ ne. h n q answers upto (sym (changed_there dropped k n m.queries ne) ∙ here)
      (sym (changed_or_there (λ (r : PlainRemains). Dropped) k n e.queries Dropped ne) ∙ still (change k (λ (r : PlainRemains). Dropped) e.queries) e2 n answers upto (ap (λ (z : PlainEngine). z.queries) t.1) left))
      (same_number n k)

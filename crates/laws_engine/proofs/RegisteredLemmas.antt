-- A registration leaves an engine good, where the query that it adds runs.
use Rattle.std.proofs.Common.{◌≡◌, ◌≢◌, ℕ, ℤ, zero, suc, ◌+◌, ◌<◌, ◌≤◌, ◌++◌, inl, inr, ⊎_elim, false, nat_lt, Option, Some, None, List, [], ◌∷◌, get_or, length, refl, sym, ap, ◌∙◌, subst, arith, length-append}
use Rattle.std.specs.Prelude.{slice_get}
use Rattle.std.proofs.lemmas.Bool.{cases_lt}
use Rattle.std.proofs.lemmas.Option.{slice_get_past, slice_get_within}
use Rattle.plan.specs.Nodes as plan
use Rattle.reference.specs.Commands.{Register}
use Rattle.reference.specs.Machine.{Registered}
use Rattle.laws_queries.specs.Plain.{PlainQuery, operator_at}
use Rattle.laws_queries.specs.Steps.{IsFirst}
use Rattle.laws_queries.specs.Machines.{IsMachine}
use Rattle.laws_queries.specs.Rows.{HaveRows}
use Rattle.laws_queries.proofs.BeatLemmas.{same_number}
use Rattle.laws_queries.proofs.MachineCounts.{machines_stand}
use Rattle.laws_queries.proofs.RowLemmas.{rows_stand}
use Rattle.run_queue.specs.Changes.{put}
use Rattle.run_queue.specs.declared.slots.Slot.{Slot}
use Rattle.laws_engine.specs.Engines.{Dropped, Lease, PlainEngine, PlainRemains, Running, query_at}
use Rattle.laws_engine.specs.Engines.{remains_at, slot_at}
use Rattle.laws_engine.specs.Good.{AreRemains, Goes, GoodEngine, HasSlots, IsLease, slot_in, slot_of}
use Rattle.laws_engine.specs.Calls.{IsRegistration, registered, with_query, with_slots}
use Rattle.laws_engine.proofs.AgainLemmas.{log_again}
use Rattle.laws_engine.proofs.BackLemmas.{same_query}
use Rattle.laws_engine.proofs.PromiseLemmas.{slot_is}
use Rattle.laws_engine.proofs.SlotLemmas.{come_slots}
use Rattle.laws_engine.proofs.TableLemmas.{updated, updated_here, updated_there}
use Rattle.laws_engine.proofs.TakeLemmas.{equal_slots, remains_again, same_anew}

-- ONE MORE stands behind a list
pub more_here : {X : Type 0} (xs : List X) (x : X) → slice_get (xs ++ x ∷ []) (length xs) ≡ Some x
more_here [] x = refl
more_here (y ∷ xs) x = more_here xs x

more_before : {X : Type 0} (xs ys : List X) (n : ℕ) → n < length xs → slice_get (xs ++ ys) n ≡ slice_get xs n
more_before [] ys n h = absurd (omega (arith, h))
more_before (x ∷ xs) ys zero h = refl
more_before (x ∷ xs) ys (suc n) h = more_before xs ys n (omega (arith, h))

pub remains_more : (ks : List PlainRemains) (k : PlainRemains) → get_or (ks ++ k ∷ []) (length ks) Dropped ≡ k
remains_more [] k = refl
remains_more (x ∷ ks) k = remains_more ks k

pub remains_before : (ks ls : List PlainRemains) (n : ℕ) → n < length ks → get_or (ks ++ ls) n Dropped ≡ get_or ks n Dropped
remains_before [] ls n h = absurd (omega (arith, h))
remains_before (x ∷ ks) ls zero h = refl
remains_before (x ∷ ks) ls (suc n) h = remains_before ks ls n (omega (arith, h))

-- ITS SLOTS are put in, from the operator k on
record Partly (e e2 : PlainEngine) (n k : ℕ) (slots : List Slot) : Type 0 where
  table : ℕ → ℕ → Option Slot
  has : HasSlots table slots
  before : (j : ℕ) → j < k → table n j ≡ slot_of e2 n j
  behind : (j : ℕ) → k ≤ j → table n j ≡ None
  others : (i j : ℕ) → i ≢ n → table i j ≡ slot_of e i j

put_next : (e e2 : PlainEngine) (n k : ℕ) (q : Registered) (p : PlainQuery) (slots : List Slot) → Partly e e2 n k slots → query_at e2 n ≡ Some q → remains_at e2 n ≡ Running p → k < length q.nodes
    → Partly e e2 n (suc k) (put slots (slot_at e2 n q p k))
put_next e e2 n k q p slots part r remains within =
    let new : Slot = slot_at e2 n q p k in
    let told : ℕ → ℕ → Option Slot = updated part.table n k new in
    record {
      table = told;
      has = come_slots part.table told slots new part.has (part.behind k (omega arith)) (updated_here part.table n k new) (λ i j ne. updated_there part.table n k new i j ne);
      before = λ j l. ⊎_elim (λ b. updated_there part.table n k new n j (inr (λ e. omega (arith, b, e))) ∙ part.before j b)
          (λ b. let at : j ≡ k = omega (arith, l, b) in ap (told n) at ∙ updated_here part.table n k new ∙ sym (slot_is e2 n k q p r remains within) ∙ sym (ap (slot_of e2 n) at)) (cases_lt j k);
      behind = λ j l. updated_there part.table n k new n j (inr (λ e. omega (arith, l, e))) ∙ part.behind j (omega (arith, l));
      others = λ i j ne. updated_there part.table n k new i j (inl ne) ∙ part.others i j ne;
    }

put_all : (e e2 : PlainEngine) (n k : ℕ) (q : Registered) (p : PlainQuery) (nodes : List plan.Node) (slots : List Slot) → query_at e2 n ≡ Some q → remains_at e2 n ≡ Running p → k + length nodes ≡ length q.nodes
    → Partly e e2 n k slots → Partly e e2 n (length q.nodes) (with_slots e2 n q p k nodes slots)
put_all e e2 n k q p [] slots r remains many part = let is : k ≡ length q.nodes = omega (arith, many) in subst (λ z. Partly e e2 n z slots) is part
put_all e e2 n k q p (node ∷ nodes) slots r remains many part =
    put_all e e2 n (suc k) q p nodes (put slots (slot_at e2 n q p k)) r remains (omega (arith, many)) (put_next e e2 n k q p slots part r remains (omega (arith, many)))

no_more : (e : PlainEngine) (n j : ℕ) (q : Registered) (p : PlainQuery) → length q.nodes ≤ j → slot_in e n j (Some q) (Running p) ≡ None
no_more e n j q p l = let f : nat_lt j (length q.nodes) ≡ false = not_less j (length q.nodes) l in rw f refl where
  not_less : (a b : ℕ) → b ≤ a → nat_lt a b ≡ false
  not_less a b l = grind (arith, l)

module _ (e : PlainEngine) (q : Registered) (p : PlainQuery) (name text : List ℕ) (chart : Option (List (ℤ × ℤ))) (g : GoodEngine e) (h : IsRegistration e name text chart q p) where
  here : query_at (with_query e q p) (length e.machine.queries) ≡ Some q
  here = more_here e.machine.queries q

  remains_here : remains_at (with_query e q p) (length e.machine.queries) ≡ Running p
  remains_here = ap (remains_at (with_query e q p)) (sym g.many) ∙ remains_more e.queries (Running p)

  there : (j : ℕ) → j < length e.machine.queries → query_at (with_query e q p) j ≡ query_at e j
  there j l = more_before e.machine.queries (q ∷ []) j l

  remains_there : (j : ℕ) → j < length e.machine.queries → remains_at (with_query e q p) j ≡ remains_at e j
  remains_there j l = remains_before e.queries (Running p ∷ []) j (omega (arith, l, g.many))

  all_queries : (j : ℕ) (r : Registered) → query_at (with_query e q p) j ≡ Some r → AreRemains (with_query e q p).machine r (remains_at (with_query e q p) j)
  all_queries j r at = ⊎_elim
      (λ l. subst (AreRemains (with_query e q p).machine r) (sym (remains_there j l)) (remains_again e.machine (e.machine.queries ++ q ∷ []) r (remains_at e j) (g.queries j r (sym (there j l) ∙ at))))
      (λ l. let few : j < length (e.machine.queries ++ q ∷ []) = slice_get_within (e.machine.queries ++ q ∷ []) j r at in
      let same : j ≡ length e.machine.queries = omega (arith, l, few, length-append e.machine.queries (q ∷ [])) in
      let is : q ≡ r = same_query (sym here ∙ ap (query_at (with_query e q p)) (sym same) ∙ at) in
      subst (λ z. AreRemains (with_query e q p).machine r (remains_at (with_query e q p) z)) (sym same) (subst (AreRemains (with_query e q p).machine r) (sym remains_here) (subst (λ z. Goes (with_query e q p).machine z p) is h.goes)))
      (cases_lt j (length e.machine.queries))

  new_lease : (slots : List Slot) (a : Lease) → IsLease e a → IsLease (record (with_query e q p) { slots = slots }) a
  new_lease slots a is =
      let l : a.query < length e.machine.queries = slice_get_within e.machine.queries a.query is.query is.registered in
      record {
        numbered = is.numbered;
        query = is.query;
        registered = there a.query l ∙ is.registered;
        plain = is.plain;
        running = remains_there a.query l ∙ is.running;
        within = is.within;
        first = subst (λ z. IsFirst (operator_at is.plain.operators a.operator) z a.side a.item) (sym (log_again [] [] e.machine (e.machine.queries ++ q ∷ []) is.query is.query.taken is.query.ever_taken a.operator)) is.first;
        near = is.near;
      }

  -- slots of the others
  other_slot : (i j : ℕ) → i ≢ length e.machine.queries → slot_of (with_query e q p) i j ≡ slot_of e i j
  other_slot i j ne = ⊎_elim
      (λ l. ap (λ z. slot_in (with_query e q p) i j z (remains_at (with_query e q p) i)) (there i l) ∙ ap (slot_in (with_query e q p) i j (query_at e i)) (remains_there i l)
      ∙ same_anew e (e.machine.queries ++ q ∷ []) (e.queries ++ Running p ∷ []) e.leases e.slots i j refl (query_at e i) (remains_at e i))
      (λ l. let far : length (e.machine.queries ++ q ∷ []) ≤ i = further i l ne in
      ap (λ z. slot_in (with_query e q p) i j z (remains_at (with_query e q p) i)) (slice_get_past (e.machine.queries ++ q ∷ []) i far)
      ∙ sym (ap (λ z. slot_in e i j z (remains_at e i)) (slice_get_past e.machine.queries i l)))
      (cases_lt i (length e.machine.queries)) where
        further : (i : ℕ) → length e.machine.queries ≤ i → i ≢ length e.machine.queries → length (e.machine.queries ++ q ∷ []) ≤ i
        further i l ne = ⊎_elim (λ b. absurd (ne (omega (arith, l, b)))) (λ b. omega (arith, b, length-append e.machine.queries (q ∷ []))) (cases_lt i (suc (length e.machine.queries)))

  none_yet : (j : ℕ) → slot_of e (length e.machine.queries) j ≡ None
  none_yet j = ap (λ z. slot_in e (length e.machine.queries) j z (remains_at e (length e.machine.queries))) (slice_get_past e.machine.queries (length e.machine.queries) (omega arith))

  all_slots : HasSlots (slot_of (with_query e q p)) (with_slots (with_query e q p) (length e.machine.queries) q p 0 q.nodes e.slots)
  all_slots =
      let start : Partly e (with_query e q p) (length e.machine.queries) 0 e.slots = record { table = slot_of e; has = g.slots; before = λ j l. absurd (omega (arith, l)); behind = λ j l. none_yet j; others = λ i j ne. refl } in
      let done : Partly e (with_query e q p) (length e.machine.queries) (length q.nodes) (with_slots (with_query e q p) (length e.machine.queries) q p 0 q.nodes e.slots) =
      put_all e (with_query e q p) (length e.machine.queries) 0 q p q.nodes e.slots here remains_here (omega arith) start in
      equal_slots done.table (slot_of (with_query e q p)) (with_slots (with_query e q p) (length e.machine.queries) q p 0 q.nodes e.slots)
      (λ i j. ⊎_elim
      (λ same. subst (λ z. slot_of (with_query e q p) z j ≡ done.table z j) (sym same)
      (⊎_elim (λ l. sym (done.before j l))
      (λ l. ap (λ z. slot_in (with_query e q p) (length e.machine.queries) j z (remains_at (with_query e q p) (length e.machine.queries))) here
      ∙ ap (slot_in (with_query e q p) (length e.machine.queries) j (Some q)) remains_here ∙ no_more (with_query e q p) (length e.machine.queries) j q p l ∙ sym (done.behind j l))
      (cases_lt j (length q.nodes))))
      (λ ne. other_slot i j ne ∙ sym (done.others i j ne))
      (same_number i (length e.machine.queries)))
      done.has

  pub register_good : GoodEngine (registered e q p)
  register_good = record {
    machine = subst IsMachine h.registers (machines_stand.goes_on e.machine (Register name text chart) 0 h.accepted g.machine);
    rows = subst HaveRows h.registers (rows_stand.goes_on e.machine (Register name text chart) 0 h.accepted g.rows);
    many = omega (arith, length-append e.queries (Running p ∷ []), length-append e.machine.queries (q ∷ []), g.many);
    queries = all_queries;
    leases = λ a i. new_lease _ a (g.leases a i);
    apart = g.apart;
    slots = all_slots;
  }

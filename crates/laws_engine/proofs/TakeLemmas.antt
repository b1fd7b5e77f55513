-- A take leaves an engine good.
use Rattle.std.proofs.Common.{◌≡◌, ◌≢◌, ℕ, zero, suc, ℤ, ◌+◌, ◌≤◌, ◌++◌, cond, ⊎_elim, Option, Some, None, List, [], ◌∷◌, drop, get_or, length, map, nat_lt, take, refl, sym, ap, ap₂, ◌∙◌, subst, arith, append_assoc, length-append, take-append-drop}
use Rattle.std.specs.Prelude.{slice_get}
use Rattle.std.specs.List.{list_any}
use Rattle.std.specs.Option.{option_map}
use Rattle.values.specs.Row.{Row}
use Rattle.plan.specs.Nodes as plan
use Rattle.operators.specs.Ready.{ready}
use Rattle.run_queue.specs.Slots.{slot}
use Rattle.run_queue.specs.declared.slots.Slot.{Slot}
use Rattle.reference.specs.Commands.{Take, change, took}
use Rattle.reference.specs.Machine.{Machine, Registered, closed_answers}
use Rattle.laws_queries.specs.Machines.{widths_of}
use Rattle.laws_queries.specs.Queries.{IsRunning}
use Rattle.laws_queries.specs.Plain.{PlainQuery, operator_at, source_of}
use Rattle.laws_queries.specs.Steps.{IsFirst}
use Rattle.laws_queries.proofs.BeatLemmas.{same_number}
use Rattle.laws_queries.proofs.MachineCounts.{machines_stand}
use Rattle.laws_queries.proofs.RowLemmas.{rows_stand}
use Rattle.laws_engine.specs.Engines.{Broken, Dropped, HasGiven, Lease, PlainEngine, PlainRemains}
use Rattle.laws_engine.specs.Engines.{Running, answers_in, is_leased, is_of, query_at, ready_in}
use Rattle.laws_engine.specs.Engines.{remains_at, slope_at, slot_at}
use Rattle.laws_engine.specs.Good.{AreRemains, Goes, GoodEngine, HasSlots, IsLease, slot_in, slot_of}
use Rattle.laws_engine.specs.Calls.{IsTake, remains_after, taken, with_queries, with_taken}
use Rattle.laws_engine.proofs.AgainLemmas.{log_again, runs_again, source_again}

-- ONE OF A LIST is changed
pub changed_here : {X : Type 0} (f : X → X) (n : ℕ) (xs : List X) → slice_get (change n f xs) n ≡ option_map f (slice_get xs n)
changed_here f n [] = refl
changed_here f zero (x ∷ xs) = refl
changed_here f (suc n) (x ∷ xs) = changed_here f n xs

pub changed_there : {X : Type 0} (f : X → X) (n j : ℕ) (xs : List X) → j ≢ n → slice_get (change n f xs) j ≡ slice_get xs j
changed_there f n j [] ne = refl
changed_there f zero zero (x ∷ xs) ne = absurd (ne refl)
changed_there f zero (suc j) (x ∷ xs) ne = refl
changed_there f (suc n) zero (x ∷ xs) ne = refl
changed_there f (suc n) (suc j) (x ∷ xs) ne = changed_there f n j xs (λ e. ne (ap suc e))

pub changed_or_here : {X : Type 0} (f : X → X) (n : ℕ) (xs : List X) (d : X) → f d ≡ d → get_or (change n f xs) n d ≡ f (get_or xs n d)
changed_or_here f n [] d e = sym e
changed_or_here f zero (x ∷ xs) d e = refl
changed_or_here f (suc n) (x ∷ xs) d e = changed_or_here f n xs d e

pub changed_or_there : {X : Type 0} (f : X → X) (n j : ℕ) (xs : List X) (d : X) → j ≢ n → get_or (change n f xs) j d ≡ get_or xs j d
changed_or_there f n j [] d ne = refl
changed_or_there f zero zero (x ∷ xs) d ne = absurd (ne refl)
changed_or_there f zero (suc j) (x ∷ xs) d ne = refl
changed_or_there f (suc n) zero (x ∷ xs) d ne = refl
changed_or_there f (suc n) (suc j) (x ∷ xs) d ne = changed_or_there f n j xs d (λ e. ne (ap suc e))

pub many_changed : {X : Type 0} (f : X → X) (n : ℕ) (xs : List X) → length (change n f xs) ≡ length xs
many_changed f n [] = refl
many_changed f zero (x ∷ xs) = refl
many_changed f (suc n) (x ∷ xs) = ap suc (many_changed f n xs)

-- what a changed item was
pub record Was {X : Type 0} (f : X → X) (o : Option X) (x : X) : Type 0 where
  pub old : X
  pub is : o ≡ Some old
  pub new : x ≡ f old

pub was : {X : Type 0} (f : X → X) (o : Option X) (x : X) → option_map f o ≡ Some x → Was f o x
was f None x e = absurd (cc)
was f (Some y) x e = record { old = y; is = refl; new = cc }

-- SLOTS of an equal table
pub equal_slots : (table table2 : ℕ → ℕ → Option Slot) (slots : List Slot) → ((n k : ℕ) → table2 n k ≡ table n k) → HasSlots table slots → HasSlots table2 slots
equal_slots table table2 slots e h = record { ordered = h.ordered; there = λ n k s t. h.there n k s (sym (e n k) ∙ t); only = λ s i. e s.query s.operator ∙ h.only s i }

-- A QUERY of which more was taken, in a machine with the same streams
sources_again : (q : Registered) (t ever : ℕ) (nodes : List plan.Node) → map (source_of q) nodes ≡ map (source_of (with_taken q t ever)) nodes
sources_again q t ever [] = refl
sources_again q t ever (node ∷ nodes) = ap₂ (λ y ys. y ∷ ys) (sym (source_again q t ever node)) (sources_again q t ever nodes)

goes_again : (m : Machine) (qs : List Registered) (q : Registered) (t ever : ℕ) (p : PlainQuery) (g : Goes m q p) (before behind : List (ℕ × Row)) → length before ≡ t → before ++ behind ≡ g.taken ++ p.answers
    → Goes (with_queries m qs) (with_taken q t ever) (record p { answers = behind })
goes_again m qs q t ever p g before behind counted whole = record {
  lives = g.lives;
  widths = g.widths;
  sources = g.sources;
  taken = before;
  counted = counted;
  runs = record {
    wires = g.runs.wires;
    sources = g.runs.sources ∙ sources_again q t ever q.nodes;
    runs = runs_again (widths_of m.streams q) g.widths m qs q t ever p.operators (before ++ behind) (subst (IsRunning (widths_of m.streams q) g.widths m q p.operators) (sym whole) g.runs.runs);
  };
}

given_again : (m : Machine) (qs : List Registered) (q : Registered) (t ever : ℕ) (waiting behind before rest : List (ℕ × Row)) → HasGiven m q waiting → length before ≡ t → closed_answers m q ≡ (before ++ behind) ++ rest
    → HasGiven (with_queries m qs) (with_taken q t ever) behind
given_again m qs q t ever waiting behind before rest g counted begins = record { taken = before; counted = counted; rest = rest; begins = begins }

-- as it was
pub remains_again : (m : Machine) (qs : List Registered) (q : Registered) (remains : PlainRemains) → AreRemains m q remains → AreRemains (with_queries m qs) q remains
remains_again m qs q (Running p) g = goes_again m qs q q.taken q.ever_taken p g g.taken p.answers g.counted refl
remains_again m qs q (Broken answers upto) g = given_again m qs q q.taken q.ever_taken answers answers g.taken g.rest g g.counted g.begins
remains_again m qs q Dropped g = given_again m qs q q.taken q.ever_taken [] [] g.taken g.rest g g.counted g.begins

-- the first answers that wait go to those that were taken
moved : (before waiting : List (ℕ × Row)) (count : ℕ) → (before ++ take count waiting) ++ drop count waiting ≡ before ++ waiting
moved before waiting count = append_assoc before (take count waiting) (drop count waiting) ∙ ap (λ z. before ++ z) (take-append-drop count waiting)

many_taken : (n : ℕ) (before waiting : List (ℕ × Row)) (count : ℕ) → length before ≡ n → count ≤ length waiting → length (before ++ take count waiting) ≡ n + count
many_taken n before waiting count e few = omega (arith, length-append before (take count waiting), e, exact waiting count few) where
  exact : (xs : List (ℕ × Row)) (c : ℕ) → c ≤ length xs → length (take c xs) ≡ c
  exact [] zero h = refl
  exact [] (suc c) h = absurd (omega (arith, h))
  exact (x ∷ xs) zero h = refl
  exact (x ∷ xs) (suc c) h = ap suc (exact xs c (omega (arith, h)))

remains_taken : (m : Machine) (qs : List Registered) (q : Registered) (count : ℕ) (remains : PlainRemains) → count ≤ length (answers_in remains) → AreRemains m q remains → AreRemains (with_queries m qs) (took count q) (remains_after count remains)
remains_taken m qs q count (Running p) few g =
    goes_again m qs q (q.taken + count) (took count q).ever_taken p g (g.taken ++ take count p.answers) (drop count p.answers) (many_taken q.taken g.taken p.answers count g.counted few) (moved g.taken p.answers count)
remains_taken m qs q count (Broken answers upto) few g =
    given_again m qs q (q.taken + count) (took count q).ever_taken answers (drop count answers) (g.taken ++ take count answers) g.rest g (many_taken q.taken g.taken answers count g.counted few) (g.begins ∙ ap (λ z. z ++ g.rest) (sym (moved g.taken answers count)))
remains_taken m qs q count Dropped few g = given_again m qs q (q.taken + count) (took count q).ever_taken [] [] g.taken g.rest g (omega (arith, g.counted, few)) g.begins

-- THE ENGINE over a machine with the same streams
abbrev pub anew : PlainEngine → List Registered → List PlainRemains → List Lease → List Slot → PlainEngine
anew e qs queries leases slots = record { machine = with_queries e.machine qs; queries = queries; leases = leases; next = e.next; slots = slots }

module _ (e : PlainEngine) (qs : List Registered) (queries : List PlainRemains) (leases : List Lease) (slots : List Slot) (n k : ℕ) (leased : list_any (is_of n k) leases ≡ list_any (is_of n k) e.leases) where
  slot_anew : (q : Registered) (t ever : ℕ) (p : PlainQuery) (answers : List (ℕ × Row)) → slot_at (anew e qs queries leases slots) n (with_taken q t ever) (record p { answers = answers }) k ≡ slot_at e n q p k
  slot_anew q t ever p answers =
      ap (λ b. slot (slope_at q k) (cond b None (ready_in (with_queries e.machine qs) (with_taken q t ever) p k)) n k) leased
      ∙ ap (λ x. slot (slope_at q k) (cond (is_leased e n k) None (ready (operator_at p.operators k) x)) n k) (log_again [] [] e.machine qs q t ever k)

  pub same_anew : (o : Option Registered) (remains : PlainRemains) → slot_in (anew e qs queries leases slots) n k o remains ≡ slot_in e n k o remains
  same_anew None remains = refl
  same_anew (Some q) (Running p) = ap (λ s. cond (nat_lt k (length q.nodes)) (Some s) None) (slot_anew q q.taken q.ever_taken p p.answers)
  same_anew (Some q) (Broken answers upto) = refl
  same_anew (Some q) Dropped = refl

  taken_anew : (count : ℕ) (o : Option Registered) (remains : PlainRemains) → slot_in (anew e qs queries leases slots) n k (option_map (took count) o) (remains_after count remains) ≡ slot_in e n k o remains
  taken_anew count None remains = refl
  taken_anew count (Some q) (Running p) = ap (λ s. cond (nat_lt k (length q.nodes)) (Some s) None) (slot_anew q (q.taken + count) (took count q).ever_taken p (drop count p.answers))
  taken_anew count (Some q) (Broken answers upto) = refl
  taken_anew count (Some q) Dropped = refl

-- A TAKE
module _ (e : PlainEngine) (n : ℕ) (limit : ℤ) (count : ℕ) (g : GoodEngine e) (t : IsTake e n limit count) where
  here_remains : remains_at (taken e n limit count) n ≡ remains_after count (remains_at e n)
  here_remains = changed_or_here (remains_after count) n e.queries Dropped refl

  few : count ≤ length (answers_in (remains_at e n))
  few = omega (arith, t.many)

  take_queries : (j : ℕ) (r : Registered) → query_at (taken e n limit count) j ≡ Some r → AreRemains (taken e n limit count).machine r (remains_at (taken e n limit count) j)
  take_queries j r at = ⊎_elim
      (λ same.
      let w : Was (took count) (slice_get e.machine.queries n) r = was (took count) _ r (sym (changed_here (took count) n e.machine.queries) ∙ ap (query_at (taken e n limit count)) (sym same) ∙ at) in
      subst (λ z. AreRemains (taken e n limit count).machine r (remains_at (taken e n limit count) z)) (sym same)
      (subst (AreRemains (taken e n limit count).machine r) (sym here_remains)
      (subst (λ z. AreRemains (taken e n limit count).machine z (remains_after count (remains_at e n))) (sym w.new)
      (remains_taken e.machine (change n (took count) e.machine.queries) w.old count (remains_at e n) few (g.queries n w.old w.is)))))
      (λ ne. subst (AreRemains (taken e n limit count).machine r) (sym (changed_or_there (remains_after count) n j e.queries Dropped ne))
      (remains_again e.machine (change n (took count) e.machine.queries) r (remains_at e j) (g.queries j r (sym (changed_there (took count) n j e.machine.queries ne) ∙ at))))
      (same_number j n)

  take_lease : (a : Lease) → IsLease e a → IsLease (taken e n limit count) a
  take_lease a is = ⊎_elim
      (λ same. record {
        numbered = is.numbered;
        query = took count is.query;
        registered = ap (query_at (taken e n limit count)) same ∙ changed_here (took count) n e.machine.queries ∙ ap (option_map (took count)) (ap (query_at e) (sym same) ∙ is.registered);
        plain = record is.plain { answers = drop count is.plain.answers };
        running = ap (remains_at (taken e n limit count)) same ∙ here_remains ∙ ap (remains_after count) (ap (remains_at e) (sym same) ∙ is.running);
        within = is.within;
        first = subst (λ z. IsFirst (operator_at is.plain.operators a.operator) z a.side a.item) (sym (log_again [] [] e.machine (change n (took count) e.machine.queries) is.query (is.query.taken + count) (took count is.query).ever_taken a.operator)) is.first;
        near = is.near;
      })
      (λ ne. record {
        numbered = is.numbered;
        query = is.query;
        registered = changed_there (took count) n a.query e.machine.queries ne ∙ is.registered;
        plain = is.plain;
        running = changed_or_there (remains_after count) n a.query e.queries Dropped ne ∙ is.running;
        within = is.within;
        first = subst (λ z. IsFirst (operator_at is.plain.operators a.operator) z a.side a.item) (sym (log_again [] [] e.machine (change n (took count) e.machine.queries) is.query is.query.taken is.query.ever_taken a.operator)) is.first;
        near = is.near;
      })
      (same_number a.query n)

  take_slot : (j k : ℕ) → slot_of (taken e n limit count) j k ≡ slot_of e j k
  take_slot j k = ⊎_elim
      (λ same. subst (λ z. slot_of (taken e n limit count) z k ≡ slot_of e z k) (sym same)
      (ap (λ z. slot_in (taken e n limit count) n k z (remains_at (taken e n limit count) n)) (changed_here (took count) n e.machine.queries)
      ∙ ap (slot_in (taken e n limit count) n k (option_map (took count) (query_at e n))) here_remains
      ∙ taken_anew e (change n (took count) e.machine.queries) (change n (remains_after count) e.queries) e.leases e.slots n k refl count (query_at e n) (remains_at e n)))
      (λ ne. ap (λ z. slot_in (taken e n limit count) j k z (remains_at (taken e n limit count) j)) (changed_there (took count) n j e.machine.queries ne)
      ∙ ap (slot_in (taken e n limit count) j k (query_at e j)) (changed_or_there (remains_after count) n j e.queries Dropped ne)
      ∙ same_anew e (change n (took count) e.machine.queries) (change n (remains_after count) e.queries) e.leases e.slots j k refl (query_at e j) (remains_at e j))
      (same_number j n)

  pub take_good : GoodEngine (taken e n limit count)
  take_good = record {
    machine = machines_stand.goes_on e.machine (Take n limit) count t.accepted g.machine;
    rows = rows_stand.goes_on e.machine (Take n limit) count t.accepted g.rows;
    many = many_changed (remains_after count) n e.queries ∙ g.many ∙ sym (many_changed (took count) n e.machine.queries);
    queries = take_queries;
    leases = λ a i. take_lease a (g.leases a i);
    apart = g.apart;
    slots = equal_slots (slot_of e) (slot_of (taken e n limit count)) e.slots take_slot g.slots;
  }

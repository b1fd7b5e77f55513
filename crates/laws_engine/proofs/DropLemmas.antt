-- A drop leaves an engine good.
use Rattle.std.proofs.Common.{◌≡◌, ◌≢◌, ℕ, ◌++◌, ⊎_elim, Option, Some, None, List, [], refl, sym, ap, ◌∙◌, subst, append-nil, append_assoc}
use Rattle.std.specs.Prelude.{slice_get}
use Rattle.values.specs.Row.{Row}
use Rattle.reference.specs.Commands.{Drop, change, first_fault}
use Rattle.reference.specs.Commands as machine
use Rattle.reference.specs.Machine.{Machine, Registered}
use Rattle.laws_queries.specs.Plain.{operator_at}
use Rattle.laws_queries.specs.Steps.{IsFirst}
use Rattle.laws_queries.proofs.BeatLemmas.{same_number}
use Rattle.laws_queries.proofs.MachineCounts.{machines_stand}
use Rattle.laws_queries.proofs.RowLemmas.{rows_stand}
use Rattle.laws_engine.specs.Engines.{Dropped, HasGiven, Lease, PlainEngine, PlainRemains}
use Rattle.laws_engine.specs.Engines.{answers_in, query_at, remains_at}
use Rattle.laws_engine.specs.Good.{AreRemains, GoodEngine, IsLease, slot_in, slot_of}
use Rattle.laws_engine.specs.Calls.{dropped, of_others, with_queries}
use Rattle.run_queue.specs.Changes.{without_query}
use Rattle.laws_engine.proofs.AgainLemmas.{log_again}
use Rattle.laws_engine.proofs.BackLemmas.{left_apart, numbered}
use Rattle.laws_engine.proofs.LeaseLemmas.{any_of_others, other_turn}
use Rattle.laws_engine.proofs.PromiseLemmas.{remains_given}
use Rattle.laws_engine.proofs.SlotLemmas.{in_filter, left_slots}
use Rattle.laws_engine.proofs.TakeLemmas.{Was, changed_here, changed_or_here, changed_or_there, changed_there, many_changed, remains_again, same_anew, was}

-- what was taken of a dropped query is a beginning of its answers
given_dropped : (m : Machine) (qs : List Registered) (q : Registered) (waiting : List (ℕ × Row)) → HasGiven m q waiting → HasGiven (with_queries m qs) (machine.dropped q) []
given_dropped m qs q waiting g = record {
  taken = g.taken;
  counted = g.counted;
  rest = waiting ++ g.rest;
  begins = g.begins ∙ append_assoc g.taken waiting g.rest ∙ ap (λ z. z ++ (waiting ++ g.rest)) (sym (append-nil g.taken));
}

no_slot : (e : PlainEngine) (n k : ℕ) (o : Option Registered) (remains : PlainRemains) → remains ≡ Dropped → slot_in e n k o remains ≡ None
no_slot e n k None remains is = refl
no_slot e n k (Some q) remains is = ap (slot_in e n k (Some q)) is

module _ (e : PlainEngine) (n : ℕ) (g : GoodEngine e) (accepted : first_fault e.machine (Drop n) ≡ None) where
  gone : remains_at (dropped e n) n ≡ Dropped
  gone = changed_or_here (λ remains. Dropped) n e.queries Dropped refl

  drop_queries : (j : ℕ) (r : Registered) → query_at (dropped e n) j ≡ Some r → AreRemains (dropped e n).machine r (remains_at (dropped e n) j)
  drop_queries j r at = ⊎_elim
      (λ same.
      let w : Was machine.dropped (slice_get e.machine.queries n) r = was machine.dropped _ r (sym (changed_here machine.dropped n e.machine.queries) ∙ ap (query_at (dropped e n)) (sym same) ∙ at) in
      subst (λ z. AreRemains (dropped e n).machine r (remains_at (dropped e n) z)) (sym same)
      (subst (AreRemains (dropped e n).machine r) (sym gone)
      (subst (λ z. HasGiven (dropped e n).machine z []) (sym w.new)
      (given_dropped e.machine (change n machine.dropped e.machine.queries) w.old (answers_in (remains_at e n)) (remains_given e.machine w.old (remains_at e n) (g.queries n w.old w.is))))))
      (λ ne. subst (AreRemains (dropped e n).machine r) (sym (changed_or_there (λ remains. Dropped) n j e.queries Dropped ne))
      (remains_again e.machine (change n machine.dropped e.machine.queries) r (remains_at e j) (g.queries j r (sym (changed_there machine.dropped n j e.machine.queries ne) ∙ at))))
      (same_number j n)

  drop_lease : (a : Lease) → a.query ≢ n → IsLease e a → IsLease (dropped e n) a
  drop_lease a ne is = record {
    numbered = is.numbered;
    query = is.query;
    registered = changed_there machine.dropped n a.query e.machine.queries ne ∙ is.registered;
    plain = is.plain;
    running = changed_or_there (λ remains. Dropped) n a.query e.queries Dropped ne ∙ is.running;
    within = is.within;
    first = subst (λ z. IsFirst (operator_at is.plain.operators a.operator) z a.side a.item) (sym (log_again [] [] e.machine (change n machine.dropped e.machine.queries) is.query is.query.taken is.query.ever_taken a.operator)) is.first;
    near = is.near;
  }

  other_slots : (j k : ℕ) → j ≢ n → slot_of (dropped e n) j k ≡ slot_of e j k
  other_slots j k ne =
      ap (λ z. slot_in (dropped e n) j k z (remains_at (dropped e n) j)) (changed_there machine.dropped n j e.machine.queries ne)
      ∙ ap (slot_in (dropped e n) j k (query_at e j)) (changed_or_there (λ remains. Dropped) n j e.queries Dropped ne)
      ∙ same_anew e (change n machine.dropped e.machine.queries) (change n (λ remains. Dropped) e.queries) (of_others n e.leases) (without_query n e.slots) j k (any_of_others n j k e.leases ne) (query_at e j) (remains_at e j)

  pub drop_good : GoodEngine (dropped e n)
  drop_good = record {
    machine = machines_stand.goes_on e.machine (Drop n) 0 accepted g.machine;
    rows = rows_stand.goes_on e.machine (Drop n) 0 accepted g.rows;
    many = many_changed (λ remains. Dropped) n e.queries ∙ g.many ∙ sym (many_changed machine.dropped n e.machine.queries);
    queries = drop_queries;
    leases = λ a i. drop_lease a (other_turn n e.leases a i) (g.leases a (in_filter _ e.leases a i).0);
    apart = left_apart _ e.leases g.apart;
    slots = left_slots (slot_of e) (slot_of (dropped e n)) e.slots n g.slots (numbered e) (λ k. no_slot (dropped e n) n k (query_at (dropped e n) n) (remains_at (dropped e n) n) gone) other_slots;
  }

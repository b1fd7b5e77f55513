-- An append leaves an engine good.
use Rattle.std.proofs.Common.{◌≡◌, ℕ, ℤ, cond, Option, Some, None, List, length, nat_lt, refl, sym, ap, subst}
use Rattle.std.proofs.lemmas.Option.{get_or_from_slice_get, slice_get_within}
use Rattle.operators.specs.Ready.{ready}
use Rattle.reference.specs.Commands.{Append, after, first_fault}
use Rattle.reference.specs.Machine.{Registered}
use Rattle.laws_queries.specs.Machines.{IsQuery}
use Rattle.laws_queries.specs.Plain.{log_at, node_at, operator_at, source_of}
use Rattle.laws_queries.specs.Steps.{IsFirst}
use Rattle.laws_queries.proofs.AppendLemmas.{append_logs}
use Rattle.laws_queries.proofs.MachineCounts.{keeps_limit, machines_stand, queries_stand}
use Rattle.laws_queries.proofs.RowLemmas.{rows_stand}
use Rattle.run_queue.specs.Slots.{slot}
use Rattle.laws_engine.specs.Engines.{Broken, Dropped, Lease, PlainEngine, PlainRemains, Running}
use Rattle.laws_engine.specs.Engines.{is_leased, query_at, remains_at, slope_at}
use Rattle.laws_engine.specs.Good.{GoodEngine, IsLease, slot_in, slot_of}
use Rattle.laws_engine.specs.Calls.{appended}
use Rattle.laws_engine.proofs.StreamLemmas.{append_remains}
use Rattle.laws_engine.proofs.TakeLemmas.{equal_slots}

-- a query of a good engine is one of its machine
pub is_query : (e : PlainEngine) → GoodEngine e → (n : ℕ) (q : Registered) → query_at e n ≡ Some q → IsQuery e.machine.streams q
is_query e g n q r = subst (IsQuery e.machine.streams) (get_or_from_slice_get e.machine.queries n q q r) ((queries_stand e.machine g.machine).each n q (slice_get_within e.machine.queries n q r))

module _ (e : PlainEngine) (s : ℕ) (rows : List (ℤ × List (Option ℤ))) (g : GoodEngine e) (accepted : first_fault e.machine (Append s rows) ≡ None) where
  logs : (q : Registered) (k : ℕ) → log_at (appended e s rows).machine q k ≡ log_at e.machine q k
  logs q k = append_logs e.machine s rows accepted (source_of q (node_at q k))

  appended_lease : (a : Lease) → IsLease e a → IsLease (appended e s rows) a
  appended_lease a is = record {
    numbered = is.numbered;
    query = is.query;
    registered = is.registered;
    plain = is.plain;
    running = is.running;
    within = is.within;
    first = subst (λ z. IsFirst (operator_at is.plain.operators a.operator) z a.side a.item) (sym (logs is.query a.operator)) is.first;
    near = is.near;
  }

  appended_slot : (n k : ℕ) (o : Option Registered) (remains : PlainRemains) → slot_in (appended e s rows) n k o remains ≡ slot_in e n k o remains
  appended_slot n k None remains = refl
  appended_slot n k (Some q) (Running p) =
      ap (λ x. cond (nat_lt k (length q.nodes)) (Some (slot (slope_at q k) (cond (is_leased e n k) None (ready (operator_at p.operators k) x)) n k)) None) (logs q k)
  appended_slot n k (Some q) (Broken answers upto) = refl
  appended_slot n k (Some q) Dropped = refl

  pub append_good : GoodEngine (appended e s rows)
  append_good = record {
    machine = machines_stand.goes_on e.machine (Append s rows) 0 accepted g.machine;
    rows = rows_stand.goes_on e.machine (Append s rows) 0 accepted g.rows;
    many = g.many;
    queries = λ n q r. append_remains e.machine s rows accepted q (remains_at e n) g.machine (is_query e g n q r)
        (keeps_limit (after e.machine (Append s rows) 0) (machines_stand.goes_on e.machine (Append s rows) 0 accepted g.machine) n q r) (g.queries n q r);
    leases = λ a i. appended_lease a (g.leases a i);
    apart = g.apart;
    slots = equal_slots (slot_of e) (slot_of (appended e s rows)) e.slots (λ n k. appended_slot n k (query_at e n) (remains_at e n)) g.slots;
  }

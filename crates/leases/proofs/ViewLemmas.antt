-- The engine of the code before any call, and what waits at its queries.
use Rattle.std.proofs.Common.{◌≡◌, ◌≤◌, ℕ, zero, suc, Some, None, List, [], ◌∷◌, length, map, get_or, slice_get, refl, sym, ap, subst, arith}
use Rattle.std.proofs.lemmas.List.{length-map}
use Rattle.run_queue.proofs.SlotLemmas.{none_ordered}
use Rattle.run_queue.specs.declared.slots.Slot.{Slot}
use Rattle.reference.specs.Machine.{Registered, Stream, empty}
use Rattle.laws_queries.specs.Machines.{IsMachine}
use Rattle.laws_queries.proofs.RowLemmas.{rows_stand}
use Rattle.laws_engine.specs.Engines.{Broken, Dropped, query_at}
use Rattle.laws_engine.specs.Good.{GoodEngine, slot_of}
use Rattle.leases.specs.Views.{empty_engine, engine_of, lease_of, remains_of, waiting_in}
use Rattle.turn.specs.declared.turns.Turn.{Turn}
use Rattle.leases.specs.Shown.{engine_in}
use Rattle.leases.specs.Whole.{IsWhole, IsWholeEngine}
use Rattle.leases.specs.declared.remains.Remains.{Remains}
use Rattle.leases.specs.declared.state.EngineState.{EngineState}
use Rattle.laws_engine.proofs.PromiseLemmas.{is_slot}

-- BEFORE ANY CALL
no_query : (n : ℕ) (q : Registered) → query_at empty_engine n ≡ Some q → ⊥
no_query n q e = let f : None ≡ Some q = e in absurd (cc)

no_slot : (n k : ℕ) (s : Slot) → slot_of empty_engine n k ≡ Some s → ⊥
no_slot n k s e = let is = is_slot empty_engine n k s e in no_query n is.query is.registered

pub empty_good : IsMachine empty → GoodEngine empty_engine
empty_good h = record {
  machine = h;
  rows = rows_stand.start;
  many = refl;
  queries = λ n q e. absurd (no_query n q e);
  leases = λ l i. absurd i;
  apart = record { operators = λ a b i j q o. absurd i; numbers = λ a b i j n. absurd i };
  slots = record { ordered = none_ordered; there = λ n k s e. absurd (no_slot n k s e); only = λ s i. absurd i };
}

pub starts_empty : (streams : List Stream) (slots : List Slot) → streams ≡ [] → slots ≡ [] → engine_of streams [] [] [] 0 slots ≡ empty_engine
starts_empty streams slots e f = rw (e, f) refl

empty_whole : IsWholeEngine empty_engine
empty_whole = record { returned = refl; unbroken = λ n answers upto e. let f : Dropped ≡ Broken answers upto = e in absurd (cc) }

pub whole_at_first : (s : EngineState) → engine_in s ≡ empty_engine → IsWhole s
whole_at_first s e = subst IsWholeEngine (sym e) empty_whole

-- WHAT WAITS
pub many_out : (ls : List Turn) → length (map lease_of ls) ≡ length ls
many_out ls = length-map ls lease_of

pub past_remains : (ks : List Remains) (n : ℕ) → length ks ≤ n → None ≡ waiting_in (get_or (map remains_of ks) n Dropped)
past_remains [] n e = refl
past_remains (k ∷ ks) zero e = absurd (omega (arith, e))
past_remains (k ∷ ks) (suc n) e = past_remains ks n (omega (arith, e))

pub none_remain : (ks : List Remains) (n : ℕ) → slice_get ks n ≡ None → None ≡ waiting_in (get_or (map remains_of ks) n Dropped)
none_remain [] n e = refl
none_remain (k ∷ ks) zero e = absurd (cc)
none_remain (k ∷ ks) (suc n) e = none_remain ks n e

some_same : {X : Type 0} {a b : X} → Some a ≡ Some b → a ≡ b
some_same e = cc

pub some_remain : (ks : List Remains) (n : ℕ) (k : Remains) → slice_get ks n ≡ Some k → waiting_in (remains_of k) ≡ waiting_in (get_or (map remains_of ks) n Dropped)
some_remain [] n k e = absurd (cc)
some_remain (x ∷ ks) zero k e = let f : k ≡ x = some_same (sym e) in ap (λ z. waiting_in (remains_of z)) f
some_remain (x ∷ ks) (suc n) k e = some_remain ks n k e

-- Whatever happens to an engine, it stays good, and so it keeps its promises.
use Rattle.std.proofs.Common.{inl, inr, List, [], ◌∷◌, refl, sym, subst}
use Rattle.std.specs.List.Sorted.{IsStrictlySortedBy}
use Rattle.reference.specs.Commands.{Append, Command, Declare, Drop, Heartbeat, Register, Take}
use Rattle.reference.specs.Machine.{Registered}
use Rattle.laws_queries.proofs.MachineCounts.{machines_stand}
use Rattle.laws_queries.proofs.RowLemmas.{rows_stand}
use Rattle.laws_queries.specs.Plain.{PlainQuery}
use Rattle.run_queue.specs.Slots.{slot_cmp}
use Rattle.laws_engine.specs.Engines.{Lease, PlainEngine}
use Rattle.laws_engine.specs.Good.{GoodEngine, IsIn}
use Rattle.laws_engine.specs.Histories.{Abandons, Breaks, Call, ComesBack, Finishes, Forgets, IsCallStep, IsCommandStep, LeadTo, Leases, Stays, Told, empty}
use Rattle.laws_engine.specs.Promises.{KeepsItsPromises}
use Rattle.laws_engine.proofs.AppendedLemmas.{append_good}
use Rattle.laws_engine.proofs.HeartbeatLemmas.{heartbeat_good}
use Rattle.laws_engine.proofs.DeclaredLemmas.{declare_good}
use Rattle.laws_engine.proofs.DropLemmas.{drop_good}
use Rattle.laws_engine.proofs.FinishLemmas.{abandon_good, answer_good, finish_good}
use Rattle.laws_engine.proofs.ForgottenLemmas.{forgotten_good}
use Rattle.laws_engine.proofs.LeaseLemmas.{break_good, lease_good}
use Rattle.laws_engine.proofs.PromiseLemmas.{keeps_its_promises}
use Rattle.laws_engine.proofs.RegisteredLemmas.{register_good}
use Rattle.laws_engine.proofs.TakeLemmas.{take_good}

no_slots : IsStrictlySortedBy slot_cmp []
unfolding IsStrictlySortedBy
no_slots = tt

pub empty_good : GoodEngine empty
empty_good = record {
  machine = machines_stand.start;
  rows = rows_stand.start;
  many = refl;
  queries = λ n q r. absurd (cc);
  leases = λ a i. absurd i;
  apart = record { operators = λ a b i j q o. absurd i; numbers = λ a b i j e. absurd i };
  slots = record { ordered = no_slots; there = λ n k s t. absurd (cc); only = λ s i. absurd i };
}

told_good : (e e2 : PlainEngine) (c : Command) → GoodEngine e → IsCommandStep e c e2 → GoodEngine e2
told_good e e2 (Declare name columns start) g t = subst GoodEngine (sym t.1) (declare_good e name columns start g t.0)
told_good e e2 (Register name text chart) g t = subst GoodEngine (sym t.1.1.1) (register_good e t.0 t.1.0 name text chart g t.1.1.0)
told_good e e2 (Append s rows) g t = subst GoodEngine (sym t.1) (append_good e s rows g t.0)
told_good e e2 (Heartbeat s at) g t = subst GoodEngine (sym t.1) (heartbeat_good e s at g t.0)
told_good e e2 (Take n limit) g t = subst GoodEngine (sym t.1.1) (take_good e n limit t.0 g t.1.0)
told_good e e2 (Drop n) g t = subst GoodEngine (sym t.1) (drop_good e n g t.0)

comes_good : (e e2 : PlainEngine) (l : Lease) (q : Registered) (p p2 : PlainQuery) → GoodEngine e → IsIn e.leases l → ComesBack e l q p p2 e2 → GoodEngine e2
comes_good e e2 l q p p2 g out (inl t) = subst GoodEngine (sym t.1) (finish_good e l q p p2 g out t.0)
comes_good e e2 l q p p2 g out (inr t) = subst GoodEngine (sym t.1) (answer_good e l q p p2 g out t.0)

pub step_good : (e e2 : PlainEngine) (c : Call) → GoodEngine e → IsCallStep e c e2 → GoodEngine e2
step_good e e2 (Told c) g t = told_good e e2 c g t
step_good e e2 (Leases l) g t = subst GoodEngine (sym t.1.1.1.1) (lease_good e l t.0 t.1.0 t.1.1.0 g t.1.1.1.0)
step_good e e2 (Finishes l) g t = comes_good e e2 l t.1.0 t.1.1.0 t.1.1.1.0 g t.0 t.1.1.1.1
step_good e e2 (Abandons l) g t = subst GoodEngine (sym t.1.1.1.1) (abandon_good e l t.1.0 t.1.1.0 g t.0 t.1.1.1.0)
step_good e e2 (Breaks l) g t = subst GoodEngine (sym t.1.1.1.1) (break_good e l.query t.1.0 t.1.1.0 g t.1.1.1.0.registered t.1.1.1.0.running)
step_good e e2 Forgets g t = subst GoodEngine (sym t) (forgotten_good e g)
step_good e e2 Stays g t = subst GoodEngine (sym t) g

pub calls_good : (e e2 : PlainEngine) (calls : List Call) → GoodEngine e → LeadTo e calls e2 → GoodEngine e2
calls_good e e2 [] g t = subst GoodEngine (sym t) g
calls_good e e2 (c ∷ calls) g t = calls_good t.0 e2 calls (step_good e t.0 c g t.1.0) t.1.1

pub engines_keep : (calls : List Call) (e : PlainEngine) → LeadTo empty calls e → KeepsItsPromises e
engines_keep calls e t = keeps_its_promises e (calls_good empty e calls empty_good t)

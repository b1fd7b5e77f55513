-- Forgetting leaves an engine good.
use Rattle.std.proofs.Common.{◌≡◌, ℕ, zero, suc, ◌<◌, Option, Some, None, List, [], ◌∷◌, length, map, get_or, refl, sym, ap, ◌∙◌}
use Rattle.std.specs.Prelude.{slice_get, unwrap_or}
use Rattle.std.specs.Option.{option_map}
use Rattle.column.specs.declared.batch.Side.{Side}
use Rattle.laws_dataflow.specs.Roots.{behind}
use Rattle.reference.specs.Machine.{Registered}
use Rattle.reference.specs.Opening.{restart}
use Rattle.laws_queries.specs.Plain.{PlainQuery, log_at, operator_at}
use Rattle.operators.specs.Ready.{last_in, waiting}
use Rattle.laws_engine.specs.Engines.{Dropped, PlainRemains, PlainEngine, Running, answers_in}
use Rattle.laws_engine.specs.Engines.{next_of, query_at, remains_at}
use Rattle.laws_engine.specs.Good.{GoodEngine, Goes}
use Rattle.laws_engine.specs.Openings.{forgotten, mark_in, marks_by}
use Rattle.laws_engine.proofs.OpenedLemmas.{Marked, goes, opened_good, query_opened, waits_same}

pub length-marks : (qs : List Registered) (ks : List PlainRemains) → length (marks_by qs ks) ≡ length qs
length-marks [] ks = refl
length-marks (q ∷ qs) [] = ap suc (length-marks qs [])
length-marks (q ∷ qs) (k ∷ ks) = ap suc (length-marks qs ks)

pub marks_at : (qs : List Registered) (ks : List PlainRemains) (n : ℕ) (q : Registered) → slice_get qs n ≡ Some q → slice_get (marks_by qs ks) n ≡ Some (mark_in q (get_or ks n Dropped))
marks_at [] ks n q h = absurd (cc)
marks_at (p ∷ qs) [] zero q h = refl
marks_at (p ∷ qs) [] (suc n) q h = marks_at qs [] n q h
marks_at (p ∷ qs) (k ∷ ks) zero q h = let e : p ≡ q = ap (λ o. unwrap_or o p) h in ap (λ z. Some (mark_in z k)) e
marks_at (p ∷ qs) (k ∷ ks) (suc n) q h = marks_at qs ks n q h

module _ (e : PlainEngine) (g : GoodEngine e) where
  abbrev marks : List (Option ℕ)
  marks = marks_by e.machine.queries e.queries

  abbrev long : length marks ≡ length e.machine.queries
  long = length-marks e.machine.queries e.queries

  marked : (n : ℕ) (q : Registered) (p : PlainQuery) (r : query_at e n ≡ Some q) (k : remains_at e n ≡ Running p) → Marked e g marks long n q p r k
  marked n q p r k =
      let h : Goes e.machine q p = goes e g marks long n q p r k in
      record {
        next = next_of q p;
        is = marks_at e.machine.queries e.queries n q r ∙ ap (λ z. Some (mark_in q z)) k;
        opens = h.runs.runs.good.root.mark ∙ ap (λ s. behind q.first (last_in s)) (sym h.runs.runs.last.runs.state);
      }

  pub forgotten_good : GoodEngine (forgotten e)
  forgotten_good = opened_good e g marks long marked

  -- a query of it
  pub forgotten_query : (n : ℕ) → query_at (forgotten e) n ≡ option_map (λ q. restart q (get_or marks n None) (get_or (map answers_in e.queries) n [])) (query_at e n)
  forgotten_query = query_opened e g marks long marked

  -- what waits for an operator is as it was
  pub forgotten_waits : (n : ℕ) (q : Registered) (p : PlainQuery) → query_at e n ≡ Some q → remains_at e n ≡ Running p → (j : ℕ) → j < length q.nodes → (side : Side)
      → waiting (operator_at p.operators j) (log_at (forgotten e).machine q j) side ≡ waiting (operator_at p.operators j) (log_at e.machine q j) side
  forgotten_waits = waits_same e g marks long marked

-- The status of an engine, taken query by query; of a whole one it is that of its world.
use Rattle.std.proofs.Common.{◌≡◌, ◌≤◌, ◌-◌, ℕ, suc, Option, ◌++◌, Bool, true, false, cond, inl, inr, ◌⊎◌, List, [], ◌∷◌, map, length, append-nil, append_assoc, arith, refl, sym, ap, ap₂, ◌∙◌, subst}
use Rattle.std.specs.Prelude.{get_or}
use Rattle.values.specs.Row.{Row}
use Rattle.operators.specs.Ready.{last_in}
use Rattle.reference.specs.Machine.{Registered}
use Rattle.reference.specs.Opening.{all_instants}
use Rattle.reference.specs.Status.{QueryStatus, queries_status, query_status, status_of, stream_status}
use Rattle.laws_dataflow.specs.Roots.{behind}
use Rattle.laws_queries.specs.Plain.{PlainQuery, operator_at}
use Rattle.laws_engine.specs.Engines.{Broken, Dropped, PlainEngine, PlainRemains, Running, answers_in, next_of, upto_by, upto_in, world_of}
use Rattle.leases.specs.Forgets.{IsMarkable}
use Rattle.leases.specs.Looks.{is_broken, queries_in, status_at, status_in_engine}
use Rattle.leases.specs.Views.{query_of, remains_of}
use Rattle.leases.specs.declared.registered.Registration.{Registration}
use Rattle.leases.specs.declared.remains.Remains.{Remains}
use Rattle.leases.specs.Whole.{IsWholeEngine}

-- A WHOLE ENGINE
unbroken : (k : PlainRemains) → ((answers : List (ℕ × Row)) (upto : ℕ) → k ≡ Broken answers upto → ⊥) → is_broken k ≡ false
unbroken (Running p) h = refl
unbroken (Broken answers upto) h = absurd (h answers upto refl)
unbroken Dropped h = refl

status_first : (b : Bool) (s : QueryStatus) (rest : List QueryStatus) → cond b [] (s ∷ []) ++ rest ≡ cond b rest (s ∷ rest)
status_first true s rest = refl
status_first false s rest = refl

all_unbroken : (qs : List Registered) (ks : List PlainRemains) → ((n : ℕ) (answers : List (ℕ × Row)) (upto : ℕ) → get_or ks n Dropped ≡ Broken answers upto → ⊥) → queries_in qs ks ≡ queries_status qs (map answers_in ks) (upto_by qs ks)
all_unbroken [] ks h = refl
all_unbroken (q ∷ qs) [] h = refl
all_unbroken (q ∷ qs) (k ∷ ks) h =
    status_first q.is_dropped (query_status q (answers_in k) (upto_in q k) (is_broken k)) (queries_in qs ks)
    ∙ ap₂ (λ (b : Bool) (rest : List QueryStatus). cond q.is_dropped rest (query_status q (answers_in k) (upto_in q k) b ∷ rest))
    (unbroken k (h 0)) (all_unbroken qs ks (λ n. h (suc n)))

pub status_is : (e : PlainEngine) → IsWholeEngine e → status_in_engine e ≡ status_of (world_of e)
unfolding status_of
status_is e whole = ap (λ (qs : List QueryStatus). record { queries = qs; streams = map stream_status e.machine.streams }) (all_unbroken e.machine.queries e.queries whole.unbroken)

-- ONE QUERY AFTER THE OTHER
abbrev pub queries_among : List Registration → List Remains → List QueryStatus
queries_among qs ks = queries_in (map query_of qs) (map remains_of ks)

-- it is complete up to an instant that there is
pub next_early : (q : Registration) (k : PlainRemains) (p : PlainQuery) (last : Option ℕ) → IsMarkable (query_of q) k → k ≡ Running p → last ≡ last_in (operator_at p.operators (length p.operators - 1)).state → behind q.first last ≤ all_instants
next_early q k p last h is e =
    let m : IsMarkable (query_of q) (Running p) = subst (IsMarkable (query_of q)) is h in
    let same : behind q.first last ≡ next_of (query_of q) p = ap (behind q.first) e ∙ ap (λ (n : ℕ). behind q.first (last_in (operator_at p.operators n).state)) (sym m.1.0) in
    omega (arith, q.early, m.1.1, same)

module _ (all : List QueryStatus) where
  pub more_status : (old new : List QueryStatus) (qs qs2 : List Registration) (ks ks2 : List Remains) (q : Registration) (k : Remains) → qs ≡ q ∷ qs2 → ks ≡ k ∷ ks2 → new ≡ old ++ status_at (query_of q) (remains_of k) → old ++ queries_among qs ks ≡ all
      → new ++ queries_among qs2 ks2 ≡ all
  more_status old new qs qs2 ks ks2 q k a b made h =
      ap (λ l. l ++ queries_among qs2 ks2) made ∙ append_assoc old (status_at (query_of q) (remains_of k)) (queries_among qs2 ks2)
      ∙ ap₂ (λ x y. old ++ queries_among x y) (sym a) (sym b) ∙ h

  none_left : (qs : List Registration) (ks : List Remains) → (length qs ≡ 0) ⊎ (length ks ≡ 0) → queries_among qs ks ≡ []
  none_left [] ks z = refl
  none_left (q ∷ qs) [] z = refl
  none_left (q ∷ qs) (k ∷ ks) (inl z) = absurd (omega (arith, z))
  none_left (q ∷ qs) (k ∷ ks) (inr z) = absurd (omega (arith, z))

  pub all_status : (old : List QueryStatus) (qs : List Registration) (ks : List Remains) → (length qs ≡ 0) ⊎ (length ks ≡ 0) → old ++ queries_among qs ks ≡ all → old ≡ all
  all_status old qs ks z h = sym (append-nil old) ∙ ap (λ l. old ++ l) (sym (none_left qs ks z)) ∙ h

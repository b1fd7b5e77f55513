-- Whatever turns ran, in whatever order: where nothing is left to run, the same answers wait, and each query is complete up to the same instant.
use Rattle.std.proofs.Common.{◌≡◌, ℕ, zero, suc, ◌<◌, ◌==◌, max, ⊎_elim, inl, inr, true, false, Some, List, [], ◌∷◌, map, drop, length, get_or, set, refl, sym, ap, ap₂, ◌∙◌, subst, subst₂, arith, eqb-true, eq-eqb}
use Rattle.std.specs.Prelude.{slice_get}
use Rattle.std.specs.List.{list_any}
use Rattle.std.proofs.lemmas.Option.{slice_get_within}
use Rattle.plan.proofs.Lists.{by_test}
use Rattle.reference.specs.Machine.{Registered, closed_answers, until_for}
use Rattle.reference.specs.World.{World}
use Rattle.laws_queries.specs.Plain.{PlainQuery}
use Rattle.laws_engine.specs.Engines.{Broken, Dropped, Lease, PlainEngine, PlainRemains, Running}
use Rattle.laws_engine.specs.Engines.{answers_in, is_leased, is_of, next_of, query_at, remains_at}
use Rattle.laws_engine.specs.Engines.{upto_by, upto_in, world_of}
use Rattle.laws_engine.specs.Good.{GoodEngine}
use Rattle.laws_engine.specs.Histories.{ComesBack, Finishes, IsCallStep}
use Rattle.laws_engine.specs.Orders.{ComesHome, GoesOut, IsStep, LeadBy, LeaveOneWorld, Passes, SameKind, SameKinds, Step}
use Rattle.laws_engine.specs.Passing.{HasPassed}
use Rattle.laws_engine.specs.Promises.{HasAllWaiting}
use Rattle.laws_engine.proofs.BackLemmas.{remains_here, remains_there}
use Rattle.laws_engine.proofs.HistoryLemmas.{step_good}
use Rattle.laws_engine.proofs.IdleLemmas.{idle_reached, idle_waits}
use Rattle.laws_engine.proofs.LeaseLemmas.{ready_good}
use Rattle.laws_engine.proofs.PassingLemmas.{pass_good}

-- KINDS
pub kind_same : (a : PlainRemains) → SameKind a a
kind_same (Running p) = tt
kind_same (Broken answers upto) = (refl, refl)
kind_same Dropped = tt

pub kind_on : (a b c : PlainRemains) → SameKind a b → SameKind b c → SameKind a c
kind_on (Running p) (Running r) (Running s) h k = tt
kind_on (Running p) (Running r) (Broken s w) h k = absurd k
kind_on (Running p) (Running r) Dropped h k = absurd k
kind_on (Running p) (Broken r v) c h k = absurd h
kind_on (Running p) Dropped c h k = absurd h
kind_on (Broken p u) (Running r) c h k = absurd h
kind_on (Broken p u) (Broken r v) (Running s) h k = absurd k
kind_on (Broken p u) (Broken r v) (Broken s w) h k = (h.0 ∙ k.0, h.1 ∙ k.1)
kind_on (Broken p u) (Broken r v) Dropped h k = absurd k
kind_on (Broken p u) Dropped c h k = absurd h
kind_on Dropped (Running r) c h k = absurd h
kind_on Dropped (Broken r v) c h k = absurd h
kind_on Dropped Dropped (Running s) h k = absurd k
kind_on Dropped Dropped (Broken s w) h k = absurd k
kind_on Dropped Dropped Dropped h k = tt

-- one query of which some operators changed
set_kinds : (e : PlainEngine) (n : ℕ) (q : Registered) (p p2 : PlainQuery) → GoodEngine e → query_at e n ≡ Some q → remains_at e n ≡ Running p → (j : ℕ) → SameKind (remains_at e j) (get_or (set e.queries n (Running p2)) j Dropped)
set_kinds e n q p p2 g registered running j = by_test (j == n)
    (λ t. let same : j ≡ n = eqb-true j n t in
    subst (λ z. SameKind (remains_at e z) (get_or (set e.queries n (Running p2)) z Dropped)) (sym same)
    (subst₂ (λ a b. SameKind a b) (sym running) (sym (remains_here e n (Running p2) (omega (arith, g.many, slice_get_within e.machine.queries n q registered)))) tt))
    (λ f. subst (SameKind (remains_at e j)) (sym (remains_there e n j (Running p2) (λ z. absurd (let k : (j == n) ≡ true = eq-eqb j n z in cc)))) (kind_same (remains_at e j)))

-- A TURN that comes back changes no kind, and none that goes out; nor does a pass
pub finish_kinds : (e e2 : PlainEngine) (l : Lease) → GoodEngine e → IsCallStep e (Finishes l) e2 → SameKinds e e2
finish_kinds e e2 l g c n =
    let q : Registered = c.1.0 in
    let p : PlainQuery = c.1.1.0 in
    let p2 : PlainQuery = c.1.1.1.0 in
    ⊎_elim
    (λ h. subst (λ z. SameKind (remains_at e n) (remains_at z n)) (sym h.1) (set_kinds e l.query q p p2 g h.0.of.registered h.0.of.running n))
    (λ h. subst (λ z. SameKind (remains_at e n) (remains_at z n)) (sym h.1) (set_kinds e l.query q p p2 g h.0.of.registered h.0.of.running n))
    c.1.1.1.1

pub pass_kinds : (e : PlainEngine) (n b : ℕ) (e2 : PlainEngine) → GoodEngine e → HasPassed e n b e2 → SameKinds e e2
pass_kinds e n b e2 g h j = subst (λ z. SameKind (remains_at e j) (remains_at z j)) (sym h.is) (set_kinds e n h.query h.plain h.after g h.registered h.running j)

-- THE ANSWERS THAT WAIT
some_at : {X : Type 0} (xs : List X) (n : ℕ) → n < length xs → (x : X) × (slice_get xs n ≡ Some x)
some_at [] n h = absurd (omega (arith, h))
some_at (x ∷ xs) zero h = (x, refl)
some_at (x ∷ xs) (suc n) h = some_at xs n (omega (arith, h))

all_same : (xs ys : List PlainRemains) → length xs ≡ length ys → ((n : ℕ) → n < length xs → answers_in (get_or xs n Dropped) ≡ answers_in (get_or ys n Dropped)) → map answers_in xs ≡ map answers_in ys
all_same [] [] e h = refl
all_same [] (y ∷ ys) e h = absurd (omega (arith, e))
all_same (x ∷ xs) [] e h = absurd (omega (arith, e))
all_same (x ∷ xs) (y ∷ ys) e h = ap₂ (λ a b. a ∷ b) (h 0 (omega arith)) (all_same xs ys (omega (arith, e)) (λ n l. h (suc n) (omega (arith, l))))

-- and up to where they are complete
all_upto : (qs : List Registered) (xs ys : List PlainRemains) → length xs ≡ length ys → ((n : ℕ) (q : Registered) → slice_get qs n ≡ Some q → upto_in q (get_or xs n Dropped) ≡ upto_in q (get_or ys n Dropped)) → upto_by qs xs ≡ upto_by qs ys
all_upto [] xs ys e h = refl
all_upto (q ∷ qs) [] [] e h = refl
all_upto (q ∷ qs) [] (y ∷ ys) e h = absurd (omega (arith, e))
all_upto (q ∷ qs) (x ∷ xs) [] e h = absurd (omega (arith, e))
all_upto (q ∷ qs) (x ∷ xs) (y ∷ ys) e h = ap₂ (λ a b. a ∷ b) (h 0 q refl) (all_upto qs xs ys (omega (arith, e)) (λ n r i. h (suc n) r i))

-- each query that runs is complete up to all that is closed
abbrev AreReached : PlainEngine → Type 0
AreReached e = (n : ℕ) (q : Registered) (p : PlainQuery) → query_at e n ≡ Some q → remains_at e n ≡ Running p → ((k : ℕ) → is_leased e n k ≡ false) → next_of q p ≡ max q.first (until_for e.machine.streams q.places)

same_upto : (e f : PlainEngine) → length e.queries ≡ length f.queries → e.machine ≡ f.machine → SameKinds e f → AreReached e → AreReached f
    → ((n k : ℕ) → is_leased e n k ≡ false) → ((n k : ℕ) → is_leased f n k ≡ false) → upto_by e.machine.queries e.queries ≡ upto_by f.machine.queries f.queries
same_upto e f many same kinds all others out gone = all_upto e.machine.queries e.queries f.queries many at ∙ ap (λ m. upto_by m.queries f.queries) same
  where
    at : (n : ℕ) (q : Registered) → query_at e n ≡ Some q → upto_in q (remains_at e n) ≡ upto_in q (remains_at f n)
    at n q i = here (remains_at e n) (remains_at f n) refl refl (kinds n)
      where
        here : (a b : PlainRemains) → remains_at e n ≡ a → remains_at f n ≡ b → SameKind a b → upto_in q a ≡ upto_in q b
        here (Running p) (Running r) x y k =
            all n q p i x (λ j. out n j)
            ∙ ap (λ m. max q.first (until_for m.streams q.places)) same
            ∙ sym (others n q r (ap (λ m. slice_get m.queries n) (sym same) ∙ i) y (λ j. gone n j))
        here (Running p) (Broken r v) x y k = absurd k
        here (Running p) Dropped x y k = absurd k
        here (Broken p u) (Running r) x y k = absurd k
        here (Broken p u) (Broken r v) x y k = k.1
        here (Broken p u) Dropped x y k = absurd k
        here Dropped (Running r) x y k = absurd k
        here Dropped (Broken r v) x y k = absurd k
        here Dropped Dropped x y k = refl

-- two good engines over the same machine, with no turn out, of which the same queries run: where nothing is left to run, they are the same to their clients
pub same_world : (e f : PlainEngine) → GoodEngine e → GoodEngine f → e.machine ≡ f.machine → SameKinds e f → HasAllWaiting e → HasAllWaiting f → AreReached e → AreReached f
    → ((n k : ℕ) → is_leased e n k ≡ false) → ((n k : ℕ) → is_leased f n k ≡ false) → world_of e ≡ world_of f
same_world e f g h same kinds all others reached there out gone =
    let many : length e.queries ≡ length f.queries = g.many ∙ ap (λ m. length m.queries) same ∙ sym h.many in
    ap₂ (λ m w. let z : World = record { machine = m; waiting = w; upto = upto_by e.machine.queries e.queries } in z) same (all_same e.queries f.queries many (λ n l. at n l))
    ∙ ap (λ u. let z : World = record { machine = f.machine; waiting = map answers_in f.queries; upto = u } in z) (same_upto e f many same kinds reached there out gone)
  where
    at : (n : ℕ) → n < length e.queries → answers_in (remains_at e n) ≡ answers_in (remains_at f n)
    at n l = here (remains_at e n) (remains_at f n) refl refl (kinds n)
      where
        found : (q : Registered) × (query_at e n ≡ Some q)
        found = some_at e.machine.queries n (omega (arith, g.many, l))

        here : (a b : PlainRemains) → remains_at e n ≡ a → remains_at f n ≡ b → SameKind a b → answers_in a ≡ answers_in b
        here (Running p) (Running r) x y k =
            all n found.0 p found.1 x (λ j. out n j)
            ∙ ap (λ m. drop found.0.taken (closed_answers m found.0)) same
            ∙ sym (others n found.0 r (ap (λ m. slice_get m.queries n) (sym same) ∙ found.1) y (λ j. gone n j))
        here (Running p) (Broken r v) x y k = absurd k
        here (Running p) Dropped x y k = absurd k
        here (Broken p u) (Running r) x y k = absurd k
        here (Broken p u) (Broken r v) x y k = k.0
        here (Broken p u) Dropped x y k = absurd k
        here Dropped (Running r) x y k = absurd k
        here Dropped (Broken r v) x y k = absurd k
        here Dropped Dropped x y k = refl

-- STEPS in whatever order
pub record Followed (e e2 : PlainEngine) : Type 0 where
  pub good : GoodEngine e2
  pub machine : e2.machine ≡ e.machine
  pub kinds : SameKinds e e2

comes_machine : (e e2 : PlainEngine) (l : Lease) (q : Registered) (p p2 : PlainQuery) → ComesBack e l q p p2 e2 → e2.machine ≡ e.machine
comes_machine e e2 l q p p2 (inl h) = ap (λ e. e.machine) h.1
comes_machine e e2 l q p p2 (inr h) = ap (λ e. e.machine) h.1

one_follows : (e e2 : PlainEngine) (s : Step) → GoodEngine e → IsStep e s e2 → Followed e e2
one_follows e e2 (GoesOut l) g h = record {
  good = subst GoodEngine (sym h.1.1.1) (ready_good e l h.0 h.1.0 g h.1.1.0);
  machine = ap (λ e. e.machine) h.1.1.1;
  kinds = λ n. subst (λ z. SameKind (remains_at e n) (remains_at z n)) (sym h.1.1.1) (kind_same (remains_at e n));
}
one_follows e e2 (ComesHome l) g h = record {
  good = step_good e e2 (Finishes l) g h;
  machine = comes_machine e e2 l h.1.0 h.1.1.0 h.1.1.1.0 h.1.1.1.1;
  kinds = finish_kinds e e2 l g h;
}
one_follows e e2 (Passes n b) g h = record {
  good = pass_good e n b e2 g h;
  machine = ap (λ e. e.machine) h.is;
  kinds = pass_kinds e n b e2 g h;
}

all_follow : (steps : List Step) (e e2 : PlainEngine) → GoodEngine e → LeadBy e steps e2 → Followed e e2
all_follow [] e e2 g h = subst (Followed e) (sym h) (record { good = g; machine = refl; kinds = λ n. kind_same (remains_at e n) })
all_follow (s ∷ steps) e e2 g h =
    let first : Followed e h.0 = one_follows e h.0 s g h.1.0 in
    let rest : Followed h.0 e2 = all_follow steps h.0 e2 first.good h.1.1 in
    record {
      good = rest.good;
      machine = rest.machine ∙ first.machine;
      kinds = λ n. kind_on (remains_at e n) (remains_at h.0 n) (remains_at e2 n) (first.kinds n) (rest.kinds n);
    }

kind_back : (a b : PlainRemains) → SameKind a b → SameKind b a
kind_back (Running p) (Running r) h = tt
kind_back (Running p) (Broken r v) h = absurd h
kind_back (Running p) Dropped h = absurd h
kind_back (Broken p u) (Running r) h = absurd h
kind_back (Broken p u) (Broken r v) h = (sym h.0, sym h.1)
kind_back (Broken p u) Dropped h = absurd h
kind_back Dropped (Running r) h = absurd h
kind_back Dropped (Broken r v) h = absurd h
kind_back Dropped Dropped h = tt

none_out : (e : PlainEngine) → e.leases ≡ [] → (n k : ℕ) → is_leased e n k ≡ false
none_out e h n k = ap (list_any (is_of n k)) h

pub one_world : (e : PlainEngine) → GoodEngine e → LeaveOneWorld e
one_world e g steps others e2 e3 h k done gone =
    let a : Followed e e2 = all_follow steps e e2 g h in
    let b : Followed e e3 = all_follow others e e3 g k in
    same_world e2 e3 a.good b.good (a.machine ∙ sym b.machine)
    (λ n. kind_on (remains_at e2 n) (remains_at e n) (remains_at e3 n) (kind_back (remains_at e n) (remains_at e2 n) (a.kinds n)) (b.kinds n))
    (idle_waits e2 a.good done.unready) (idle_waits e3 b.good gone.unready) (idle_reached e2 a.good done.unready) (idle_reached e3 b.good gone.unready) (none_out e2 done.returned) (none_out e3 gone.returned)

-- An engine after a turn has come back.
use Rattle.std.proofs.Common.{◌≡◌, ◌≢◌, ℕ, ◌<◌, ◌||◌, ◌==◌, not, Bool, true, false, inl, inr, ◌⊎◌, ⊎_elim, Some, List, [], ◌∷◌, filter, length, set, get_or, refl, sym, ap, ◌∙◌, subst, arith, eqb-true, eq-eqb}
use Rattle.std.specs.List.{list_any}
use Rattle.std.proofs.lemmas.List.{get_or-set_other, get_or-set_same, length-set}
use Rattle.std.proofs.lemmas.Option.{slice_get_within}
use Rattle.column.specs.declared.batch.Side.{Side}
use Rattle.op_queue.specs.Logs.{Closed}
use Rattle.op_queue.specs.declared.item.Item.{Item}
use Rattle.operators.specs.Ready.{PlainOperator}
use Rattle.operators.specs.States.{near_of}
use Rattle.plan.proofs.Lists.{by_test}
use Rattle.reference.specs.Machine.{Registered}
use Rattle.laws_queries.specs.Plain.{PlainQuery, log_at, operator_at}
use Rattle.laws_queries.specs.Steps.{IsFirst}
use Rattle.run_queue.specs.declared.slots.Slot.{Slot}
use Rattle.laws_engine.specs.Engines.{Dropped, Lease, PlainEngine, PlainRemains, Running, is_of}
use Rattle.laws_engine.specs.Engines.{query_at, remains_at}
use Rattle.laws_engine.specs.Good.{AreApart, AreRemains, GoodEngine, HasSlots, IsIn, IsLease, slot_of}
use Rattle.laws_engine.specs.Calls.{IsOf, given_back, others}
use Rattle.laws_engine.proofs.PromiseLemmas.{is_slot}
use Rattle.laws_engine.proofs.SlotLemmas.{AreNumbered, in_filter}

-- THE SLOTS of an engine are numbered
pub numbered : (e : PlainEngine) → AreNumbered (slot_of e)
numbered e n k t h = let s = is_slot e n k t h in (ap (λ z. z.query) (sym s.is), ap (λ z. z.operator) (sym s.is))

pub unequal : (a b : ℕ) → (a ≢ b) → (a == b) ≡ false
unequal a b ne = by_test (a == b) (λ t. absurd (ne (eqb-true a b t))) (λ f. f)

-- THE LEASES that are left
pub left_apart : (p : Lease → Bool) (ls : List Lease) → AreApart ls → AreApart (filter p ls)
left_apart p ls h = record {
  operators = λ a b i j q o. h.operators a b (in_filter p ls a i).0 (in_filter p ls b j).0 q o;
  numbers = λ a b i j n. h.numbers a b (in_filter p ls a i).0 (in_filter p ls b j).0 n;
}

pub other_number : (n : ℕ) (ls : List Lease) (a : Lease) → IsIn (others n ls) a → a.number ≢ n
other_number n ls a i e =
    let f = in_filter (λ l. not (l.number == n)) ls a i in
    let g : (a.number == n) ≡ true = eq-eqb a.number n e in
    let bad : false ≡ true = ap not (sym g) ∙ f.1 in
    cc

-- a lease of another query or operator is not the one
pub other_operator : (ls : List Lease) (l a : Lease) → AreApart ls → IsIn ls l → IsIn (others l.number ls) a → (a.query ≢ l.query) ⊎ (a.operator ≢ l.operator)
other_operator ls l a h i j = by_test (a.query == l.query)
    (λ t. inr (λ e. other_number l.number ls a j (ap (λ z. z.number) (h.operators a l (in_filter _ ls a j).0 i (eqb-true a.query l.query t) e))))
    (λ f. inl (λ e. absurd (let g : (a.query == l.query) ≡ true = eq-eqb a.query l.query e in cc)))

-- WHETHER AN OPERATOR IS LEASED
-- a lease that leaves, of which the test does not hold, changes nothing
any_left : (p test : Lease → Bool) (ls : List Lease) → ((l : Lease) → IsIn ls l → test l ≡ false → p l ≡ false) → list_any p (filter test ls) ≡ list_any p ls
any_left p test [] h = refl
any_left p test (x ∷ ls) h =
    let later : list_any p (filter test ls) ≡ list_any p ls = any_left p test ls (λ l i. h l (inr i)) in
    by_test (test x)
    (λ t. rw t (ap (λ b. p x || b) later))
    (λ f. let g : p x ≡ false = h x (inl refl) f in rw (f, g) later)

is_of_false : (n k : ℕ) (l : Lease) → (l.query ≢ n) ⊎ (l.operator ≢ k) → is_of n k l ≡ false
is_of_false n k l (inl ne) = let u : (l.query == n) ≡ false = unequal l.query n ne in rw u refl
is_of_false n k l (inr ne) = let u : (l.operator == k) ≡ false = unequal l.operator k ne in by_test (l.query == n) (λ t. rw (t, u) refl) (λ f. rw f refl)

-- the same operators of others are leased after the turn of a number has come back
pub same_leased : (ls : List Lease) (l : Lease) (n k : ℕ) → AreApart ls → IsIn ls l → (n ≢ l.query) ⊎ (k ≢ l.operator) → list_any (is_of n k) (others l.number ls) ≡ list_any (is_of n k) ls
same_leased ls l n k h i ne = any_left (is_of n k) (λ a. not (a.number == l.number)) ls
    (λ a j f. by_test (a.number == l.number)
    (λ t. let same : a ≡ l = h.numbers a l j i (eqb-true a.number l.number t) in is_of_false n k a (⊎_elim (λ d. inl (λ e. d (sym e ∙ ap (λ z. z.query) same))) (λ d. inr (λ e. d (sym e ∙ ap (λ z. z.operator) same))) ne))
    (λ g. let bad : not (a.number == l.number) ≡ true = ap not g in let worse : true ≡ false = sym bad ∙ f in absurd (cc)))

-- THE QUERIES
pub remains_here : (e : PlainEngine) (n : ℕ) (remains : PlainRemains) → n < length e.queries → get_or (set e.queries n remains) n Dropped ≡ remains
remains_here e n remains h = get_or-set_same e.queries n remains Dropped h

pub remains_there : (e : PlainEngine) (n j : ℕ) (remains : PlainRemains) → j ≢ n → get_or (set e.queries n remains) j Dropped ≡ get_or e.queries j Dropped
remains_there e n j remains ne = get_or-set_other e.queries n j remains Dropped ne

pub same_query : {a b : Registered} → Some a ≡ Some b → a ≡ b
same_query e = cc

pub same_plain : {a b : PlainQuery} → Running a ≡ Running b → a ≡ b
same_plain e = cc

-- an item that stands first stands first still, in an operator that has it first
pub record FirstStays (a b : PlainOperator) (log : Closed) : Type 0 where
  pub state : b.state ≡ a.state
  pub first : (side : Side) (i : Item) → IsFirst a log side i → IsFirst b log side i

pub stays_same : (a b : PlainOperator) (log : Closed) → b ≡ a → FirstStays a b log
stays_same a b log e = record { state = ap (λ z. z.state) e; first = λ side i f. subst (λ z. IsFirst z log side i) (sym e) f }

-- A QUERY'S OPERATORS CHANGE, and a turn of one comes back
module _ (e : PlainEngine) (l : Lease) (q : Registered) (p p2 : PlainQuery) (g : GoodEngine e) (out : IsIn e.leases l) (of : IsOf e l q p) (goes : AreRemains e.machine q (Running p2))
    (stays : (j : ℕ) → j ≢ l.operator → FirstStays (operator_at p.operators j) (operator_at p2.operators j) (log_at e.machine q j)) where
  e2 : PlainEngine
  e2 = given_back e l p2

  here : remains_at e2 l.query ≡ Running p2
  unfolding e2
  here = remains_here e l.query (Running p2) (omega (arith, g.many, slice_get_within e.machine.queries l.query q of.registered))

  back_queries : (n : ℕ) (r : Registered) → query_at e2 n ≡ Some r → AreRemains e2.machine r (remains_at e2 n)
  unfolding e2
  back_queries n r at = by_test (n == l.query)
      (λ t.
      let same : n ≡ l.query = eqb-true n l.query t in
      let is : r ≡ q = same_query (sym at ∙ ap (query_at e) same ∙ of.registered) in
      subst (λ z. AreRemains e.machine r (remains_at (given_back e l p2) z)) (sym same) (subst (AreRemains e.machine r) (sym here) (subst (λ z. AreRemains e.machine z (Running p2)) (sym is) goes)))
      (λ f. subst (AreRemains e.machine r) (sym (remains_there e l.query n (Running p2) (λ z. absurd (let h : (n == l.query) ≡ true = eq-eqb n l.query z in cc)))) (g.queries n r at))

  back_lease : (a : Lease) → IsIn (others l.number e.leases) a → IsLease e2 a
  unfolding e2
  back_lease a i =
      let is : IsLease e a = g.leases a (in_filter _ e.leases a i).0 in
      let apart : (a.query ≢ l.query) ⊎ (a.operator ≢ l.operator) = other_operator e.leases l a g.apart out i in
      by_test (a.query == l.query)
      (λ t.
      let same : a.query ≡ l.query = eqb-true a.query l.query t in
      let sq : is.query ≡ q = same_query (sym is.registered ∙ ap (query_at e) same ∙ of.registered) in
      let sp : is.plain ≡ p = same_plain (sym is.running ∙ ap (remains_at e) same ∙ of.running) in
      let ne : a.operator ≢ l.operator = ⊎_elim (λ d. absurd (d same)) (λ d. d) apart in
      let st = stays a.operator ne in
      record {
        numbered = is.numbered;
        query = q;
        registered = ap (query_at e) same ∙ of.registered;
        plain = p2;
        running = ap (remains_at (given_back e l p2)) same ∙ here;
        within = subst (λ z. a.operator < length z.nodes) sq is.within;
        first = st.first a.side a.item (subst (λ z. IsFirst (operator_at z.operators a.operator) (log_at e.machine q a.operator) a.side a.item) sp
            (subst (λ z. IsFirst (operator_at is.plain.operators a.operator) (log_at e.machine z a.operator) a.side a.item) sq is.first));
        near = is.near ∙ ap (λ z. near_of (operator_at z.operators a.operator).state a.side a.item) sp ∙ ap (λ z. near_of z a.side a.item) (sym st.state);
      })
      (λ f. record {
        numbered = is.numbered;
        query = is.query;
        registered = is.registered;
        plain = is.plain;
        running = remains_there e l.query a.query (Running p2) (λ z. absurd (let h : (a.query == l.query) ≡ true = eq-eqb a.query l.query z in cc)) ∙ is.running;
        within = is.within;
        first = is.first;
        near = is.near;
      })

  -- with slots that are those of its operators it is a good engine
  pub back_good : (slots : List Slot) → HasSlots (slot_of (record (given_back e l p2) { slots = slots })) slots → GoodEngine (record (given_back e l p2) { slots = slots })
  unfolding e2
  back_good slots h = record {
    machine = g.machine;
    rows = g.rows;
    many = length-set e.queries l.query (Running p2) ∙ g.many;
    queries = back_queries;
    leases = λ a i. let is = back_lease a i in record { numbered = is.numbered; query = is.query; registered = is.registered; plain = is.plain; running = is.running; within = is.within; first = is.first; near = is.near };
    apart = left_apart _ e.leases g.apart;
    slots = h;
  }

-- A turn that goes out, and a query that breaks, leave an engine good.
use Rattle.std.proofs.Common.{◌≡◌, ◌≢◌, ℕ, ◌+◌, ◌<◌, ◌++◌, ◌||◌, ◌==◌, not, Bool, cond, true, false, inl, inr, ◌⊎◌, ⊎_elim, Option, Some, None, List, [], ◌∷◌, length, set, refl, sym, ap, ◌∙◌, subst, arith, eqb-true, eq-eqb}
use Rattle.std.specs.List.{list_any}
use Rattle.std.proofs.lemmas.List.{length-set}
use Rattle.std.proofs.lemmas.Option.{slice_get_within}
use Rattle.plan.proofs.Lists.{by_test}
use Rattle.reference.specs.Machine.{Registered}
use Rattle.laws_queries.specs.Plain.{PlainQuery}
use Rattle.run_queue.specs.declared.slots.Slot.{Slot}
use Rattle.laws_engine.specs.Engines.{Broken, HasGiven, Lease, PlainEngine, Running, is_leased}
use Rattle.laws_engine.specs.Engines.{is_of, next_at, query_at, remains_at, slot_at}
use Rattle.laws_engine.specs.Good.{AreApart, AreRemains, Goes, GoodEngine, HasSlots, IsIn, IsLease, slot_in, slot_of, upto_at}
use Rattle.laws_engine.specs.Orders.{IsReady}
use Rattle.laws_engine.specs.Promises.{IsOfSteepest}
use Rattle.laws_engine.specs.Calls.{IsLeasable, broken, given_out, leased, of_others, slot_updated}
use Rattle.laws_engine.proofs.BackLemmas.{left_apart, numbered, remains_here, remains_there, same_query, unequal}
use Rattle.laws_engine.proofs.PromiseLemmas.{remains_given, keeps_its_promises, slot_is}
use Rattle.laws_engine.proofs.SlotLemmas.{changed_slots, in_filter, left_slots}
use Rattle.laws_engine.proofs.TableLemmas.{same_slot_in}

-- THE TURNS with one more
in_push : (ls : List Lease) (l a : Lease) → IsIn (ls ++ l ∷ []) a → IsIn ls a ⊎ (l ≡ a)
in_push [] l a (inl e) = inr e
in_push [] l a (inr i) = absurd i
in_push (x ∷ ls) l a (inl e) = inl (inl e)
in_push (x ∷ ls) l a (inr i) = ⊎_elim (λ j. inl (inr j)) (λ e. inr e) (in_push ls l a i)

any_push : (p : Lease → Bool) (ls : List Lease) (l : Lease) → p l ≡ false → list_any p (ls ++ l ∷ []) ≡ list_any p ls
any_push p [] l f = rw f refl
any_push p (x ∷ ls) l f = ap (λ b. p x || b) (any_push p ls l f)

any_in : (p : Lease → Bool) (ls : List Lease) (l : Lease) → IsIn ls l → p l ≡ true → list_any p ls ≡ true
any_in p [] l i t = absurd i
any_in p (x ∷ ls) l (inl e) t = let u : p x ≡ true = ap p e ∙ t in rw u refl
any_in p (x ∷ ls) l (inr i) t = let u : list_any p ls ≡ true = any_in p ls l i t in by_test (p x) (λ v. rw v refl) (λ f. rw (f, u) refl)

is_of_same : (n k : ℕ) (l : Lease) → l.query ≡ n → l.operator ≡ k → is_of n k l ≡ true
is_of_same n k l e f = let u : (l.query == n) ≡ true = eq-eqb l.query n e in let v : (l.operator == k) ≡ true = eq-eqb l.operator k f in rw (u, v) refl

is_of_other : (n k : ℕ) (l : Lease) → (n ≢ l.query) ⊎ (k ≢ l.operator) → is_of n k l ≡ false
is_of_other n k l (inl ne) = let u : (l.query == n) ≡ false = unequal l.query n (λ e. ne (sym e)) in rw u refl
is_of_other n k l (inr ne) = let u : (l.operator == k) ≡ false = unequal l.operator k (λ e. ne (sym e)) in by_test (l.query == n) (λ t. rw (t, u) refl) (λ f. rw f refl)

none_leased : {X : Type 0} (b : Bool) (o : Option X) (t : X) → cond b None o ≡ Some t → b ≡ false
none_leased true o t e = absurd (cc)
none_leased false o t e = refl

-- A LEASE of any operator that might be leased
module _ (e : PlainEngine) (l : Lease) (q : Registered) (p : PlainQuery) (g : GoodEngine e) (h : IsReady e l q p) where
  not_one : (a : Lease) → IsIn e.leases a → l.query ≡ a.query → l.operator ≡ a.operator → ⊥
  not_one a i eq eo =
      let bad : true ≡ false = sym (any_in (is_of l.query l.operator) e.leases a i (is_of_same l.query l.operator a (sym eq) (sym eo))) ∙ h.returned in
      cc

  not_number : (a : Lease) → IsIn e.leases a → l.number ≡ a.number → ⊥
  not_number a i en = absurd (omega (arith, (g.leases a i).numbered, h.number, en))

  out_apart : AreApart (e.leases ++ l ∷ [])
  out_apart = record {
    operators = λ a b i j eq eo. ⊎_elim
        (λ ia. ⊎_elim (λ ib. g.apart.operators a b ia ib eq eo) (λ z. absurd (not_one a ia (ap (λ y. y.query) z ∙ sym eq) (ap (λ y. y.operator) z ∙ sym eo))) (in_push e.leases l b j))
        (λ y. ⊎_elim (λ ib. absurd (not_one b ib (ap (λ x. x.query) y ∙ eq) (ap (λ x. x.operator) y ∙ eo))) (λ z. sym y ∙ z) (in_push e.leases l b j))
        (in_push e.leases l a i);
    numbers = λ a b i j en. ⊎_elim
        (λ ia. ⊎_elim (λ ib. g.apart.numbers a b ia ib en) (λ z. absurd (not_number a ia (ap (λ y. y.number) z ∙ sym en))) (in_push e.leases l b j))
        (λ y. ⊎_elim (λ ib. absurd (not_number b ib (ap (λ x. x.number) y ∙ en))) (λ z. sym y ∙ z) (in_push e.leases l b j))
        (in_push e.leases l a i);
  }

  new_lease : IsLease (leased e l q p) l
  new_lease = record {
    numbered = omega (arith, h.number);
    query = q;
    registered = h.of.registered;
    plain = p;
    running = h.of.running;
    within = h.of.within;
    first = h.item;
    near = h.near;
  }

  old_lease : (a : Lease) → IsLease e a → IsLease (leased e l q p) a
  old_lease a is = record { numbered = omega (arith, is.numbered); query = is.query; registered = is.registered; plain = is.plain; running = is.running; within = is.within; first = is.first; near = is.near }

  out_slots : HasSlots (slot_of (given_out e l)) (slot_updated e (given_out e l) l.query q p p l.operator e.slots)
  out_slots = changed_slots (slot_of e) (slot_of (given_out e l)) e.slots (slot_at e l.query q p l.operator) (next_at (given_out e l) l.query q p l.operator) g.slots (numbered e)
      (slot_is e l.query l.operator q p h.of.registered h.of.running h.of.within) (slot_is (given_out e l) l.query l.operator q p h.of.registered h.of.running h.of.within)
      (λ n k ne. same_slot_in e e.queries (e.leases ++ l ∷ []) (e.next + 1) e.slots n k (any_push (is_of n k) e.leases l (is_of_other n k l ne)) (query_at e n) (remains_at e n))

  pub ready_good : GoodEngine (leased e l q p)
  ready_good = record {
    machine = g.machine;
    rows = g.rows;
    many = g.many;
    queries = g.queries;
    leases = λ a i. ⊎_elim (λ j. old_lease a (g.leases a j)) (λ z. subst (IsLease (leased e l q p)) z new_lease) (in_push e.leases l a i);
    apart = out_apart;
    slots = out_slots;
  }

-- the first slot's operator is one
pub leasable_ready : (e : PlainEngine) (l : Lease) (q : Registered) (p : PlainQuery) (s : Slot) → GoodEngine e → IsLeasable e l q p s → IsReady e l q p
leasable_ready e l q p s g h =
    let top : IsOfSteepest e s = (keeps_its_promises e g).steepest s h.first in
    record {
      returned = subst (λ z. is_leased e z l.operator ≡ false) (sym h.query)
          (subst (λ z. is_leased e s.query z ≡ false) (sym h.operator) (none_leased (is_leased e s.query s.operator) _ (s.side, s.instant) top.next));
      number = h.number;
      of = h.of;
      item = h.item;
      near = h.near;
    }

pub lease_good : (e : PlainEngine) (l : Lease) (q : Registered) (p : PlainQuery) (s : Slot) → GoodEngine e → IsLeasable e l q p s → GoodEngine (leased e l q p)
lease_good e l q p s g h = ready_good e l q p g (leasable_ready e l q p s g h)

-- A QUERY BREAKS
pub other_turn : (n : ℕ) (ls : List Lease) (a : Lease) → IsIn (of_others n ls) a → a.query ≢ n
other_turn n ls a i e =
    let f = in_filter (λ l. not (l.query == n)) ls a i in
    let g : (a.query == n) ≡ true = eq-eqb a.query n e in
    let bad : false ≡ true = ap not (sym g) ∙ f.1 in
    cc

pub any_of_others : (n k j : ℕ) (ls : List Lease) → k ≢ n → list_any (is_of k j) (of_others n ls) ≡ list_any (is_of k j) ls
any_of_others n k j [] ne = refl
any_of_others n k j (x ∷ ls) ne = by_test (x.query == n)
    (λ t. let f : is_of k j x ≡ false = is_of_other k j x (inl (λ z. ne (z ∙ eqb-true x.query n t))) in rw (t, f) (any_of_others n k j ls ne))
    (λ f. rw f (ap (λ b. is_of k j x || b) (any_of_others n k j ls ne)))

pub break_good : (e : PlainEngine) (n : ℕ) (q : Registered) (p : PlainQuery) → GoodEngine e → query_at e n ≡ Some q → remains_at e n ≡ Running p → GoodEngine (broken e n p)
break_good e n q p g registered running =
    let few : n < length e.queries = omega (arith, g.many, slice_get_within e.machine.queries n q registered) in
    let goes : Goes e.machine q p = subst (AreRemains e.machine q) running (g.queries n q registered) in
    let here : remains_at (broken e n p) n ≡ Broken p.answers (upto_at e n) = remains_here e n (Broken p.answers (upto_at e n)) few in
    let far : (j : ℕ) → (j == n) ≡ false → j ≢ n = λ j f z. absurd (let h : (j == n) ≡ true = eq-eqb j n z in cc) in
    record {
      machine = g.machine;
      rows = g.rows;
      many = length-set e.queries n (Broken p.answers (upto_at e n)) ∙ g.many;
      queries = λ j r at. by_test (j == n)
          (λ t. let same : j ≡ n = eqb-true j n t in
          let is : q ≡ r = same_query (sym registered ∙ ap (query_at e) (sym same) ∙ at) in
          subst (λ z. AreRemains e.machine r (remains_at (broken e n p) z)) (sym same) (subst (AreRemains e.machine r) (sym here) (subst (λ z. HasGiven e.machine z p.answers) is (remains_given e.machine q (Running p) goes))))
          (λ f. subst (AreRemains e.machine r) (sym (remains_there e n j (Broken p.answers (upto_at e n)) (far j f))) (g.queries j r at));
      leases = λ a i. let is : IsLease e a = g.leases a (in_filter _ e.leases a i).0 in record {
        numbered = is.numbered;
        query = is.query;
        registered = is.registered;
        plain = is.plain;
        running = remains_there e n a.query (Broken p.answers (upto_at e n)) (other_turn n e.leases a i) ∙ is.running;
        within = is.within;
        first = is.first;
        near = is.near;
      };
      apart = left_apart _ e.leases g.apart;
      slots = left_slots (slot_of e) (slot_of (broken e n p)) e.slots n g.slots (numbered e)
          (λ k. ap (λ z. slot_in (broken e n p) n k z (remains_at (broken e n p) n)) registered ∙ ap (slot_in (broken e n p) n k (Some q)) here)
          (λ j k ne. ap (slot_in (broken e n p) j k (query_at e j)) (remains_there e n j (Broken p.answers (upto_at e n)) ne)
          ∙ same_slot_in e (set e.queries n (Broken p.answers (upto_at e n))) (of_others n e.leases) e.next e.slots j k (any_of_others n j k e.leases ne) (query_at e j) (remains_at e j));
    }

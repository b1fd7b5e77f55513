-- A good engine keeps its promises.
use Rattle.std.proofs.Common.{◌≡◌, ℕ, Bool, true, false, ◌<◌, ◌++◌, ◌⊎◌, cond, inl, inr, Option, Some, None, MatchOption, is_none, unwrap_or, List, [], ◌∷◌, length, nat_lt, lt-ltb, ltb-true, refl, sym, ap, ap₂, ◌∙◌, subst}
use Rattle.std.specs.List.{AllByRecursion}
use Rattle.std.specs.List.Sorted.{IsStrictlySortedBy}
use Rattle.std.specs.declared.cmp.Ordering.TheVariants.{Less}
use Rattle.column.specs.declared.batch.Side.{Side}
use Rattle.column.specs.declared.batch.Side.TheVariants.{Left}
use Rattle.envelope.specs.Fraction.{NoGreater}
use Rattle.plan.proofs.Lists.{by_test}
use Rattle.reference.specs.Machine.{Machine, Registered}
use Rattle.laws_queries.specs.Machines.{widths_of}
use Rattle.laws_queries.specs.Queries.{NoneReady}
use Rattle.laws_queries.specs.Plain.{PlainQuery}
use Rattle.laws_queries.proofs.NodeLemmas.{gives_its_answers}
use Rattle.run_queue.specs.Slots.{first_of, slot_cmp}
use Rattle.run_queue.specs.Changes.{AreIdle, IsSteepest}
use Rattle.run_queue.specs.declared.slots.Slot.{Slot}
use Rattle.run_queue.proofs.FirstLemmas.{first_is_steepest}
use Rattle.laws_engine.specs.Engines.{Broken, Dropped, HasGiven, PlainEngine, PlainRemains, Running}
use Rattle.laws_engine.specs.Engines.{answers_in, is_leased, next_at, query_at, ready_in}
use Rattle.laws_engine.specs.Engines.{remains_at, slope_at, slot_at}
use Rattle.laws_engine.specs.Good.{AreRemains, Goes, GoodEngine, IsIn, slot_in, slot_of}
use Rattle.laws_engine.specs.Promises.{GivesAll, GivesBeginnings, KeepsItsPromises, LeasesSteepest, TellsIdleness}

-- WHAT WAS GIVEN
pub remains_given : (m : Machine) (q : Registered) (remains : PlainRemains) → AreRemains m q remains → HasGiven m q (answers_in remains)
remains_given m q (Running p) g =
    let r = (gives_its_answers (widths_of m.streams q) g.widths m q).beginning p.operators (g.taken ++ p.answers) g.runs.runs in
    record { taken = g.taken; counted = g.counted; rest = r.0; begins = r.1 }
remains_given m q (Broken answers upto) g = g
remains_given m q Dropped g = g

begins : (e : PlainEngine) → GoodEngine e → GivesBeginnings e
begins e g n q r = remains_given e.machine q (remains_at e n) (g.queries n q r)

-- THE SLOT of an operator of a running query
within_true : (a b : ℕ) → a < b → nat_lt a b ≡ true
within_true a b h = lt-ltb a b h

true_within : (a b : ℕ) → nat_lt a b ≡ true → a < b
true_within a b h = ltb-true a b h

pub slot_is : (e : PlainEngine) (n k : ℕ) (q : Registered) (p : PlainQuery) → query_at e n ≡ Some q → remains_at e n ≡ Running p → k < length q.nodes → slot_of e n k ≡ Some (slot_at e n q p k)
slot_is e n k q p r remains within =
    ap (λ z. slot_in e n k z (remains_at e n)) r ∙ ap (slot_in e n k (Some q)) remains ∙ ap (λ b. cond b (Some (slot_at e n q p k)) None) (within_true k (length q.nodes) within)

-- and every slot is one
pub record IsSlot (e : PlainEngine) (n k : ℕ) (s : Slot) : Type 0 where
  pub query : Registered
  pub registered : query_at e n ≡ Some query
  pub plain : PlainQuery
  pub running : remains_at e n ≡ Running plain
  pub within : k < length query.nodes
  pub is : slot_at e n query plain k ≡ s

slot_from : (e : PlainEngine) (n k : ℕ) (s : Slot) (o : Option Registered) (remains : PlainRemains) → query_at e n ≡ o → remains_at e n ≡ remains → slot_in e n k o remains ≡ Some s → IsSlot e n k s
slot_from e n k s None remains r f h = absurd (cc)
slot_from e n k s (Some q) (Running p) r f h = by_test (nat_lt k (length q.nodes))
    (λ t. let g : Some (slot_at e n q p k) ≡ Some s = rw t at h in record { query = q; registered = r; plain = p; running = f; within = true_within k (length q.nodes) t; is = cc })
    (λ b. let g : None ≡ Some s = rw b at h in absurd (cc))
slot_from e n k s (Some q) (Broken answers upto) r f h = absurd (cc)
slot_from e n k s (Some q) Dropped r f h = absurd (cc)

pub is_slot : (e : PlainEngine) (n k : ℕ) (s : Slot) → slot_of e n k ≡ Some s → IsSlot e n k s
is_slot e n k s h = slot_from e n k s (query_at e n) (remains_at e n) refl refl h

-- NOTHING IS READY
idle_in : (slots : List Slot) (s : Slot) → AreIdle slots → IsIn slots s → s.is_idle ≡ true
idle_in [] s h i = absurd i
idle_in (t ∷ slots) s h (inl e) = ap (λ z. z.is_idle) (sym e) ∙ h.0
idle_in (t ∷ slots) s h (inr i) = idle_in slots s h.1 i

all_idle : (slots : List Slot) (o : Option Slot) → first_of slots ≡ o → MatchOption (first_of slots) (AreIdle slots) (IsSteepest slots) → MatchOption o (AreIdle slots) (IsSteepest slots)
all_idle slots o e h = subst (λ z. MatchOption z (AreIdle slots) (IsSteepest slots)) e h

none_at : (o : Option (Side × ℕ)) → is_none o ≡ true → o ≡ None
none_at None h = refl
none_at (Some t) h = absurd (cc)

tells_idleness : (e : PlainEngine) → GoodEngine e → TellsIdleness e
tells_idleness e g first n k q p r remains within =
    let idle : AreIdle e.slots = all_idle e.slots None first (first_is_steepest e.slots g.slots.ordered) in
    let at : (slot_at e n q p k).is_idle ≡ true = idle_in e.slots (slot_at e n q p k) idle (g.slots.there n k (slot_at e n q p k) (slot_is e n k q p r remains within)) in
    none_at (next_at e n q p k) at

gives_all : (e : PlainEngine) → GoodEngine e → GivesAll e
gives_all e g n q p r remains ran =
    let goes : Goes e.machine q p = subst (AreRemains e.machine q) remains (g.queries n q r) in
    let unready : NoneReady e.machine q p.operators = λ k within.
    let out : is_leased e n k ≡ false = ran.returned k in
    let is : next_at e n q p k ≡ ready_in e.machine q p k = rw out refl in
    sym is ∙ ran.unready k within in
    record {
      taken = goes.taken;
      counted = goes.counted;
      all = (gives_its_answers (widths_of e.machine.streams q) goes.widths e.machine q).whole p.operators (goes.taken ++ p.answers) goes.runs.runs unready;
    }

-- THE FIRST SLOT
pub first_in : (slots : List Slot) (s : Slot) → first_of slots ≡ Some s → IsIn slots s × (s.is_idle ≡ false)
first_in [] s e = absurd (cc)
first_in (t ∷ slots) s e = by_idle t.is_idle refl e where
  by_idle : (b : Bool) → t.is_idle ≡ b → cond b None (Some t) ≡ Some s → IsIn (t ∷ slots) s × (s.is_idle ≡ false)
  by_idle true i e = absurd (cc)
  by_idle false i e = let is : t ≡ s = cc in (inl is, ap (λ z. z.is_idle) (sym is) ∙ i)

steepest_in : (slots : List Slot) (s t : Slot) → IsSteepest slots s → IsIn slots t → t.is_idle ≡ false → NoGreater t.slope.0 s.slope.0
steepest_in [] s t h i f = absurd i
steepest_in (x ∷ slots) s t h (inl e) f = subst (λ z. NoGreater z.slope.0 s.slope.0) e (h.0 (ap (λ z. z.is_idle) e ∙ f))
steepest_in (x ∷ slots) s t h (inr i) f = steepest_in slots s t h.1 i f

-- each other slot stands behind it
behind_in : (s : Slot) (slots : List Slot) (t : Slot) → AllByRecursion (λ t. slot_cmp s t ≡ Less) slots → IsIn slots t → slot_cmp s t ≡ Less
behind_in s [] t h i = absurd i
behind_in s (x ∷ slots) t h (inl e) = subst (λ z. slot_cmp s z ≡ Less) e h.0
behind_in s (x ∷ slots) t h (inr i) = behind_in s slots t h.1 i

head_is : (b : Bool) (x s : Slot) → cond b None (Some x) ≡ Some s → x ≡ s
head_is true x s e = absurd (cc)
head_is false x s e = cc

behind_first : (slots : List Slot) (s t : Slot) → IsStrictlySortedBy slot_cmp slots → first_of slots ≡ Some s → IsIn slots t → (t ≡ s) ⊎ (slot_cmp s t ≡ Less)
unfolding IsStrictlySortedBy
behind_first [] s t h e i = absurd i
behind_first (x ∷ slots) s t h e (inl same) = inl (sym same ∙ head_is x.is_idle x s e)
behind_first (x ∷ slots) s t h e (inr i) = inr (subst (λ z. slot_cmp z t ≡ Less) (head_is x.is_idle x s e) (behind_in x slots t h.0 i))

some_by : (o : Option (Side × ℕ)) (side : Side) (t : ℕ) → is_none o ≡ false → (unwrap_or o (Left, 0)).0 ≡ side → (unwrap_or o (Left, 0)).1 ≡ t → o ≡ Some (side, t)
some_by None side t f d e = absurd (cc)
some_by (Some x) side t f d e = ap₂ (λ a b. Some (a, b)) d e

steepest : (e : PlainEngine) → GoodEngine e → LeasesSteepest e
steepest e g s first =
    let at = first_in e.slots s first in
    let is : IsSlot e s.query s.operator s = is_slot e s.query s.operator s (g.slots.only s at.0) in
    let most : IsSteepest e.slots s = all_idle e.slots (Some s) first (first_is_steepest e.slots g.slots.ordered) in
    record {
      query = is.query;
      registered = is.registered;
      plain = is.plain;
      running = is.running;
      within = is.within;
      next = some_by (next_at e s.query is.query is.plain s.operator) s.side s.instant (ap (λ z. z.is_idle) is.is ∙ at.1) (ap (λ z. z.side) is.is) (ap (λ z. z.instant) is.is);
      steepest = λ n k q p t r remains within ready_at.
          subst (λ z. NoGreater (slope_at q k) z.slope.0) (sym is.is)
          (steepest_in e.slots s (slot_at e n q p k) most (g.slots.there n k (slot_at e n q p k) (slot_is e n k q p r remains within)) (ap is_none ready_at));
      first = λ n k q p t r remains within ready_at. behind_first e.slots s (slot_at e n q p k) g.slots.ordered first (g.slots.there n k (slot_at e n q p k) (slot_is e n k q p r remains within));
    }

pub keeps_its_promises : (e : PlainEngine) → GoodEngine e → KeepsItsPromises e
keeps_its_promises e g = record { begins = begins e g; all = gives_all e g; steepest = steepest e g; idle = tells_idleness e g }

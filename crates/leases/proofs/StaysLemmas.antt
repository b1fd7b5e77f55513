-- A slot that stays the first of all while its operator runs.
use Rattle.std.proofs.Common.{◌≡◌, ℕ, ◌<◌, ◌≤◌, Bool, true, false, cond, inl, inr, ◌⊎◌, ⊎_elim, Option, Some, None, List, [], ◌∷◌, refl, sym, ap, ◌∙◌, subst, arith}
use Rattle.std.specs.Cmp.{ranks}
use Rattle.std.specs.List.Sorted.{IsStrictlySortedBy}
use Rattle.std.specs.Ordering.{MatchOrdering, bool_cmp, is_gt, nat_cmp, ordering_then}
use Rattle.std.specs.declared.cmp.Ordering.{Ordering}
use Rattle.std.specs.declared.cmp.Ordering.TheVariants.{Less, Equal, Greater}
use Rattle.column.specs.declared.batch.Side.{Side}
use Rattle.envelope.specs.Fraction.{fraction_cmp}
use Rattle.run_queue.specs.Slots.{first_of, slot_cmp}
use Rattle.run_queue.specs.Changes.{with_next}
use Rattle.run_queue.specs.declared.slots.Slot.{Slot}
use Rattle.laws_engine.specs.Good.{IsIn}
use Rattle.leases.proofs.UpdateLemmas.{all_in, not_both}

-- THE FIRST of a list: each other one stands behind it
head_is : (b : Bool) (x s : Slot) → cond b None (Some x) ≡ Some s → x ≡ s
head_is true x s e = absurd (cc)
head_is false x s e = cc

pub behind : (slots : List Slot) (s t : Slot) → IsStrictlySortedBy slot_cmp slots → first_of slots ≡ Some s → IsIn slots t → (t ≡ s) ⊎ (slot_cmp s t ≡ Less)
unfolding IsStrictlySortedBy
behind [] s t h e i = absurd i
behind (x ∷ slots) s t h e (inl same) = inl (sym same ∙ head_is x.is_idle x s e)
behind (x ∷ slots) s t h e (inr i) = inr (subst (λ z. slot_cmp z t ≡ Less) (head_is x.is_idle x s e) (all_in (λ z. slot_cmp x z ≡ Less) slots t h.0 i))

-- and one that has something to take, and stands before all others, is the first
pub comes_first : (slots : List Slot) (s : Slot) → IsStrictlySortedBy slot_cmp slots → IsIn slots s → s.is_idle ≡ false → ((t : Slot) → IsIn slots t → (t ≡ s) ⊎ (slot_cmp s t ≡ Less)) → first_of slots ≡ Some s
unfolding IsStrictlySortedBy
comes_first [] s h i busy before = absurd i
comes_first (x ∷ slots) s h (inl same) busy before = ap (λ b. cond b None (Some x)) (ap (λ z. z.is_idle) same ∙ busy) ∙ ap Some same
comes_first (x ∷ slots) s h (inr i) busy before =
    let same : x ≡ s = ⊎_elim (λ e. e) (λ less. absurd (not_both s x less (all_in (λ z. slot_cmp x z ≡ Less) slots s h.0 i))) (before x (inl refl)) in
    ap (λ b. cond b None (Some x)) (ap (λ z. z.is_idle) same ∙ busy) ∙ ap Some same

-- THE SAME PLACE: with something of the same instant to take
pub same_place : (s t : Slot) (x : Side × ℕ) → s.is_idle ≡ false → x.1 ≡ s.instant → slot_cmp (with_next s (Some x)) t ≡ slot_cmp s t
same_place s t x busy at =
    ap (λ i. ordering_then (bool_cmp false t.is_idle) (ordering_then (fraction_cmp t.slope.0 s.slope.0) (ordering_then (nat_cmp i t.instant) (ordering_then (nat_cmp s.query t.query) (nat_cmp s.operator t.operator))))) at
    ∙ ap (λ b. ordering_then (bool_cmp b t.is_idle) (ordering_then (fraction_cmp t.slope.0 s.slope.0) (ordering_then (nat_cmp s.instant t.instant) (ordering_then (nat_cmp s.query t.query) (nat_cmp s.operator t.operator))))) (sym busy)

-- NUMBERS
less_by : (o : Ordering) (a b : ℕ) → MatchOrdering o (a < b) (a ≡ b) (b < a) → a < b → o ≡ Less
less_by Less a b m lt = refl
less_by Equal a b m lt = absurd (omega (arith, m, lt))
less_by Greater a b m lt = absurd (omega (arith, m, lt))

equal_by : (o : Ordering) (a b : ℕ) → MatchOrdering o (a < b) (a ≡ b) (b < a) → a ≡ b → o ≡ Equal
equal_by Less a b m e = absurd (omega (arith, m, e))
equal_by Equal a b m e = refl
equal_by Greater a b m e = absurd (omega (arith, m, e))

then_less : (o p : Ordering) (a b : ℕ) → MatchOrdering o (a < b) (a ≡ b) (b < a) → a ≤ b → p ≡ Less → ordering_then o p ≡ Less
then_less Less p a b m le e = refl
then_less Equal p a b m le e = e
then_less Greater p a b m le e = absurd (omega (arith, m, le))

no_later : (o p : Ordering) (a b : ℕ) → MatchOrdering o (a < b) (a ≡ b) (b < a) → ordering_then o p ≡ Less → a ≤ b
no_later Less p a b m e = omega (arith, m)
no_later Equal p a b m e = omega (arith, m)
no_later Greater p a b m e = absurd (cc)

-- THE SLOT ABOVE, of a greater operator of the same query, and no steeper
-- where the slopes are the same, it has nothing of an earlier instant
pub above_no_earlier : (s a : Slot) (x : Side × ℕ) (z : Side × ℕ) → fraction_cmp a.slope.0 s.slope.0 ≡ Equal → slot_cmp (with_next s (Some x)) (with_next a (Some z)) ≡ Less → x.1 ≤ z.1
above_no_earlier s a x z level less =
    let rest : ordering_then (nat_cmp x.1 z.1) (ordering_then (nat_cmp s.query a.query) (nat_cmp s.operator a.operator)) ≡ Less =
    ap (λ o. ordering_then o (ordering_then (nat_cmp x.1 z.1) (ordering_then (nat_cmp s.query a.query) (nat_cmp s.operator a.operator)))) (sym level) ∙ less in
    no_later (nat_cmp x.1 z.1) (ordering_then (nat_cmp s.query a.query) (nat_cmp s.operator a.operator)) x.1 z.1 (ranks x.1 z.1) rest

by_slope : (o p : Ordering) → is_gt o ≡ false → (o ≡ Equal → p ≡ Less) → ordering_then o p ≡ Less
by_slope Less p flat h = refl
by_slope Equal p flat h = h refl
by_slope Greater p flat h = absurd (cc)

-- then it stands behind
pub before_above : (s a : Slot) (x : Side × ℕ) (y : Option (Side × ℕ)) → is_gt (fraction_cmp a.slope.0 s.slope.0) ≡ false → (fraction_cmp a.slope.0 s.slope.0 ≡ Equal → (z : Side × ℕ) → y ≡ Some z → x.1 ≤ z.1)
    → s.query ≡ a.query → s.operator < a.operator → slot_cmp (with_next s (Some x)) (with_next a y) ≡ Less
before_above s a x None flat later same lt = refl
before_above s a x (Some z) flat later same lt = by_slope (fraction_cmp a.slope.0 s.slope.0) _ flat
    (λ level.
    let numbers : ordering_then (nat_cmp s.query a.query) (nat_cmp s.operator a.operator) ≡ Less =
    ap (λ o. ordering_then o (nat_cmp s.operator a.operator)) (equal_by (nat_cmp s.query a.query) s.query a.query (ranks s.query a.query) same)
    ∙ less_by (nat_cmp s.operator a.operator) s.operator a.operator (ranks s.operator a.operator) lt in
    then_less (nat_cmp x.1 z.1) (ordering_then (nat_cmp s.query a.query) (nat_cmp s.operator a.operator)) x.1 z.1 (ranks x.1 z.1) (later level z refl) numbers)

-- The first slot in order has a greatest slope among those with something to take.
use Rattle.std.proofs.Common.{◌≡◌, ℕ, ◌*◌, ◌<◌, ◌≤◌, Bool, true, false, List, [], ◌∷◌, refl, None, Some, MatchOption, cond, arith}
use Rattle.std.specs.Cmp.{ranks}
use Rattle.std.specs.List.{AllByRecursion}
use Rattle.std.specs.List.Sorted.{IsStrictlySortedBy}
use Rattle.std.specs.Ordering.{MatchOrdering, bool_cmp, ordering_then}
use Rattle.std.specs.declared.cmp.Ordering.{Ordering}
use Rattle.std.specs.declared.cmp.Ordering.TheVariants.{Less, Equal, Greater}
use Rattle.envelope.specs.Fraction.{NoGreater, denominator}
use Rattle.run_queue.specs.Slots.{slot_cmp, first_of}
use Rattle.run_queue.specs.Changes.{AreIdle, IsSteepest}
use Rattle.run_queue.specs.declared.slots.Slot.{Slot}

-- behind an idle slot all are idle
idle_behind : (b c : Bool) (o : Ordering) → b ≡ true → ordering_then (bool_cmp b c) o ≡ Less → c ≡ true
idle_behind b true o e l = refl
idle_behind true false o e l = cc
idle_behind false false o e l = e

all_idle : (s : Slot) (slots : List Slot) → s.is_idle ≡ true → AllByRecursion (λ t. slot_cmp s t ≡ Less) slots → AreIdle slots
all_idle s [] e h = tt
all_idle s (t ∷ slots) e h = (idle_behind s.is_idle t.is_idle _ e h.0, all_idle s slots e h.1)

pub none_ready : (s : Slot) (slots : List Slot) → s.is_idle ≡ true → IsStrictlySortedBy slot_cmp (s ∷ slots) → AreIdle (s ∷ slots)
unfolding IsStrictlySortedBy
none_ready s slots e h = (e, all_idle s slots e h.0)

-- behind a slot with something to take there is no greater slope with something to take
not_greater : (o p : Ordering) (a b : ℕ) → MatchOrdering o (a < b) (a ≡ b) (b < a) → ordering_then o p ≡ Less → a ≤ b
not_greater Less p a b m e = omega (arith, m)
not_greater Equal p a b m e = omega (arith, m)
not_greater Greater p a b m e = cc

slopes_by : (b c : Bool) (o : Ordering) → b ≡ false → c ≡ false → ordering_then (bool_cmp b c) o ≡ Less → o ≡ Less
slopes_by false false o e f l = l
slopes_by true c o e f l = cc
slopes_by false true o e f l = cc

no_steeper : (s t : Slot) → s.is_idle ≡ false → slot_cmp s t ≡ Less → t.is_idle ≡ false → NoGreater t.slope.0 s.slope.0
no_steeper s t e l f = record {
  by_products = not_greater _ _ (t.slope.0.numerator * denominator s.slope.0) (s.slope.0.numerator * denominator t.slope.0)
      (ranks (t.slope.0.numerator * denominator s.slope.0) (s.slope.0.numerator * denominator t.slope.0)) (slopes_by s.is_idle t.is_idle _ e f l);
}

all_no_steeper : (s : Slot) (slots : List Slot) → s.is_idle ≡ false → AllByRecursion (λ t. slot_cmp s t ≡ Less) slots → IsSteepest slots s
all_no_steeper s [] e h = tt
all_no_steeper s (t ∷ slots) e h = (no_steeper s t e h.0, all_no_steeper s slots e h.1)

pub none_steeper : (s : Slot) (slots : List Slot) → s.is_idle ≡ false → IsStrictlySortedBy slot_cmp (s ∷ slots) → IsSteepest (s ∷ slots) s
unfolding IsStrictlySortedBy
none_steeper s slots e h = ((λ f. record { by_products = omega arith }), all_no_steeper s slots e h.0)

first_by : (b : Bool) (s : Slot) (slots : List Slot) → s.is_idle ≡ b → IsStrictlySortedBy slot_cmp (s ∷ slots) → MatchOption (cond b None (Some s)) (AreIdle (s ∷ slots)) (IsSteepest (s ∷ slots))
first_by true s slots e h = none_ready s slots e h
first_by false s slots e h = none_steeper s slots e h

pub first_is_steepest : (slots : List Slot) → IsStrictlySortedBy slot_cmp slots → MatchOption (first_of slots) (AreIdle slots) (IsSteepest slots)
first_is_steepest [] h = tt
first_is_steepest (s ∷ slots) h = first_by s.is_idle s slots refl h

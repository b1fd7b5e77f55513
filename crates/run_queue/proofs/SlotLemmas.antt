-- Slots in their order: what a search finds, and what comes and goes.
use Rattle.std.proofs.Common.{◌≡◌, ℕ, zero, suc, ◌<◌, Bool, true, false, not, ◌||◌, ◌==◌, List, [], ◌∷◌, length, cond, refl, sym, ap, ◌∙◌, arith}
use Rattle.std.specs.Cmp.{IsTotalOrder, nat_cmp_total, bool_cmp_total, on_total, back_total}
use Rattle.std.proofs.lemmas.Cmp.{then_total}
use Rattle.std.proofs.lemmas.List.Kept.{IsStrictlySortedBy-filter}
use Rattle.std.specs.List.{AllByRecursion, HoldsAt}
use Rattle.std.specs.List.Sorted.{IsStrictlySortedBy}
use Rattle.std.specs.Ordering.{is_eq, match_ordering, ordering_reverse}
use Rattle.std.specs.declared.cmp.Ordering.{Ordering}
use Rattle.std.specs.declared.cmp.Ordering.TheVariants.{Less, Equal, Greater}
use Rattle.envelope.specs.FractionLaws.{fractions_total}
use Rattle.run_queue.specs.Slots.{slot_cmp}
use Rattle.run_queue.specs.Changes.{put, has, without, without_query}
use Rattle.run_queue.specs.declared.slots.Slot.{Slot}

pub none_ordered : IsStrictlySortedBy slot_cmp []
unfolding IsStrictlySortedBy
none_ordered = tt

pub slots_total : IsTotalOrder slot_cmp
slots_total = then_total (on_total (λ (s : Slot). s.is_idle) bool_cmp_total) (then_total (back_total (on_total (λ (s : Slot). s.slope.0) fractions_total))
    (then_total (on_total (λ (s : Slot). s.instant) nat_cmp_total) (then_total (on_total (λ (s : Slot). s.query) nat_cmp_total) (on_total (λ (s : Slot). s.operator) nat_cmp_total))))

-- the order turned round
pub lower : (a b : Slot) → slot_cmp a b ≡ Less → slot_cmp b a ≡ Greater
lower a b e = slots_total.antisymm b a ∙ ap ordering_reverse e

pub higher : (a b : Slot) → slot_cmp a b ≡ Greater → slot_cmp b a ≡ Less
higher a b e = slots_total.antisymm b a ∙ ap ordering_reverse e

pub same : (a b : Slot) → slot_cmp a b ≡ Equal → slot_cmp b a ≡ Equal
same a b e = slots_total.antisymm b a ∙ ap ordering_reverse e

-- AFTER IT they are in their order still
before_by : (x y s : Slot) (slots : List Slot) (o : Ordering) → slot_cmp x s ≡ Less → AllByRecursion (λ t. slot_cmp x t ≡ Less) (y ∷ slots) → AllByRecursion (λ t. slot_cmp x t ≡ Less) (put slots s)
    → AllByRecursion (λ t. slot_cmp x t ≡ Less) (match_ordering o (s ∷ y ∷ slots) (y ∷ slots) (y ∷ put slots s))
before_by x y s slots Less l h later = (l, h)
before_by x y s slots Equal l h later = h
before_by x y s slots Greater l h later = (h.0, later)

before_put : (x : Slot) (slots : List Slot) (s : Slot) → slot_cmp x s ≡ Less → AllByRecursion (λ t. slot_cmp x t ≡ Less) slots → AllByRecursion (λ t. slot_cmp x t ≡ Less) (put slots s)
before_put x [] s l h = (l, tt)
before_put x (y ∷ slots) s l h = before_by x y s slots (slot_cmp s y) l h (before_put x slots s l h.1)

pub before_all : (s x : Slot) (slots : List Slot) → slot_cmp s x ≡ Less → AllByRecursion (λ t. slot_cmp x t ≡ Less) slots → AllByRecursion (λ t. slot_cmp s t ≡ Less) slots
before_all s x [] l h = tt
before_all s x (y ∷ slots) l h = (slots_total.trans s x y l h.0, before_all s x slots l h.1)

ordered_by : (x s : Slot) (slots : List Slot) (o : Ordering) → slot_cmp s x ≡ o → AllByRecursion (λ t. slot_cmp x t ≡ Less) slots → IsStrictlySortedBy slot_cmp slots → IsStrictlySortedBy slot_cmp (put slots s)
    → IsStrictlySortedBy slot_cmp (match_ordering o (s ∷ x ∷ slots) (x ∷ slots) (x ∷ put slots s))
unfolding IsStrictlySortedBy
ordered_by x s slots Less e before h later = ((e, before_all s x slots e before), (before, h))
ordered_by x s slots Equal e before h later = (before, h)
ordered_by x s slots Greater e before h later = (before_put x slots s (higher s x e) before, later)

pub put_ordered : (slots : List Slot) (s : Slot) → IsStrictlySortedBy slot_cmp slots → IsStrictlySortedBy slot_cmp (put slots s)
unfolding IsStrictlySortedBy
put_ordered [] s h = (tt, tt)
put_ordered (x ∷ slots) s h = ordered_by x s slots (slot_cmp s x) refl h.0 h.1 (put_ordered slots s h.1)

pub without_ordered : (slots : List Slot) (s : Slot) → IsStrictlySortedBy slot_cmp slots → IsStrictlySortedBy slot_cmp (without s slots)
without_ordered slots s h = IsStrictlySortedBy-filter slot_cmp (λ t. not (is_eq (slot_cmp t s))) slots h

-- what stays where an equal slot leaves
pub kept : (s y : Slot) (slots : List Slot) (o : Ordering) → slot_cmp y s ≡ o → is_eq o ≡ false → without s (y ∷ slots) ≡ y ∷ without s slots
kept s y slots o e f = ap (λ b. cond (not (is_eq b)) (y ∷ without s slots) (without s slots)) e ∙ ap (λ b. cond (not b) (y ∷ without s slots) (without s slots)) f

pub all_kept : (s : Slot) (slots : List Slot) → AllByRecursion (λ t. slot_cmp s t ≡ Less) slots → without s slots ≡ slots
all_kept s [] h = refl
all_kept s (y ∷ slots) h = kept s y slots Greater (lower s y h.0) refl ∙ ap (λ l. y ∷ l) (all_kept s slots h.1)

pub same_before : (s x : Slot) (slots : List Slot) → slot_cmp x s ≡ Equal → AllByRecursion (λ t. slot_cmp x t ≡ Less) slots → AllByRecursion (λ t. slot_cmp s t ≡ Less) slots
same_before s x [] e h = tt
same_before s x (y ∷ slots) e h = (sym (slots_total.congr x s y e) ∙ h.0, same_before s x slots e h.1)

either : (b : Bool) → (b || true) ≡ true
either true = refl
either false = refl

pub has_at : (slots : List Slot) (s : Slot) (i : ℕ) → i < length slots → HoldsAt (λ y. slot_cmp y s ≡ Equal) slots i → has s slots ≡ true
has_at [] s i l e = absurd (omega (arith, l))
has_at (x ∷ slots) s zero l e = ap (λ o. is_eq o || has s slots) (e x)
has_at (x ∷ slots) s (suc i) l e = ap (λ b. is_eq (slot_cmp x s) || b) (has_at slots s i (omega (arith, l)) (λ d. e d)) ∙ either (is_eq (slot_cmp x s))

pub without_query_ordered : (slots : List Slot) (query : ℕ) → IsStrictlySortedBy slot_cmp slots → IsStrictlySortedBy slot_cmp (without_query query slots)
without_query_ordered slots query h = IsStrictlySortedBy-filter slot_cmp (λ s. not (s.query == query)) slots h

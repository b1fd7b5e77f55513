-- A slot that is as it stands in the list.
use Rattle.std.proofs.Common.{◌≡◌, ◌≢◌, ℕ, Bool, true, false, not, ◌||◌, ◌<◌, Option, List, [], ◌∷◌, cond, refl, sym, ap, ◌∙◌, subst}
use Rattle.column.specs.declared.batch.Side.{Side}
use Rattle.envelope.specs.Fraction.{fraction_cmp}
use Rattle.std.specs.Cmp.{ranks}
use Rattle.std.specs.List.{AllByRecursion}
use Rattle.std.specs.List.Sorted.{IsStrictlySortedBy}
use Rattle.std.specs.Ordering.{MatchOrdering, bool_cmp, is_eq, match_ordering, nat_cmp, ordering_then}
use Rattle.std.specs.declared.cmp.Ordering.{Ordering}
use Rattle.std.specs.declared.cmp.Ordering.TheVariants.{Less, Equal, Greater}
use Rattle.run_queue.specs.Slots.{slot_cmp}
use Rattle.run_queue.specs.Changes.{Stands, changed, put, has, with_next, without}
use Rattle.run_queue.specs.declared.slots.Slot.{Slot}
use Rattle.run_queue.proofs.SlotLemmas.{all_kept, before_all, higher, kept, lower, same_before}

-- WHERE IT GETS WHAT IT HAD nothing changes
pub has_none : (s : Slot) (slots : List Slot) → AllByRecursion (λ t. slot_cmp s t ≡ Less) slots → has s slots ≡ false
has_none s [] h = refl
has_none s (y ∷ slots) h = let f : is_eq (slot_cmp y s) ≡ false = ap is_eq (lower s y h.0) in let g : has s slots ≡ false = has_none s slots h.1 in rw (f, g) refl

pub put_first : (s : Slot) (slots : List Slot) → AllByRecursion (λ t. slot_cmp s t ≡ Less) slots → put slots s ≡ s ∷ slots
put_first s [] h = refl
put_first s (y ∷ slots) h = ap (λ o. match_ordering o (s ∷ y ∷ slots) (y ∷ slots) (y ∷ put slots s)) h.0

pub before_rest : (s x : Slot) (slots : List Slot) → slot_cmp s x ≡ Less → AllByRecursion (λ t. slot_cmp x t ≡ Less) slots → AllByRecursion (λ t. slot_cmp s t ≡ Less) (x ∷ slots)
before_rest s x slots l h = (l, before_all s x slots l h)

behind_by : (b : Bool) (x s : Slot) (slots : List Slot) → slot_cmp s x ≡ Greater → cond b (put (without s slots) s) slots ≡ slots → cond b (put (x ∷ without s slots) s) (x ∷ slots) ≡ x ∷ slots
behind_by true x s slots g e = ap (λ o. match_ordering o (s ∷ x ∷ without s slots) (x ∷ without s slots) (x ∷ put (without s slots) s)) g ∙ ap (λ l. x ∷ l) e
behind_by false x s slots g e = refl

-- what stands there is the slot; by where it comes to stand beside the first
kept_by : (x s : Slot) (slots : List Slot) (o : Ordering) → slot_cmp x s ≡ o → (slot_cmp x s ≡ Equal → x ≡ s) → AllByRecursion (λ t. slot_cmp x t ≡ Less) slots
    → cond (has s slots) (put (without s slots) s) slots ≡ slots → cond (has s (x ∷ slots)) (put (without s (x ∷ slots)) s) (x ∷ slots) ≡ x ∷ slots
kept_by x s slots Less e is before rest =
    let has_rest : has s (x ∷ slots) ≡ has s slots = ap (λ o. is_eq o || has s slots) e in
    ap (λ b. cond b (put (without s (x ∷ slots)) s) (x ∷ slots)) has_rest
    ∙ ap (λ l. cond (has s slots) (put l s) (x ∷ slots)) (kept s x slots Less e refl)
    ∙ behind_by (has s slots) x s slots (lower x s e) rest
kept_by x s slots Equal e is before rest =
    let there : has s (x ∷ slots) ≡ true = ap (λ o. is_eq o || has s slots) e in
    let behind : AllByRecursion (λ t. slot_cmp s t ≡ Less) slots = same_before s x slots e before in
    let gone : without s (x ∷ slots) ≡ slots = ap (λ o. cond (not (is_eq o)) (x ∷ without s slots) (without s slots)) e ∙ all_kept s slots behind in
    ap (λ b. cond b (put (without s (x ∷ slots)) s) (x ∷ slots)) there ∙ ap (λ l. put l s) gone ∙ put_first s slots behind ∙ ap (λ z. z ∷ slots) (sym (is e))
kept_by x s slots Greater e is before rest =
    let none : has s (x ∷ slots) ≡ false = has_none s (x ∷ slots) (before_rest s x slots (higher x s e) before) in
    ap (λ b. cond b (put (without s (x ∷ slots)) s) (x ∷ slots)) none

nothing_changes : (slots : List Slot) (s : Slot) → IsStrictlySortedBy slot_cmp slots → Stands s slots → cond (has s slots) (put (without s slots) s) slots ≡ slots
unfolding IsStrictlySortedBy
nothing_changes [] s h stands = refl
nothing_changes (x ∷ slots) s h stands = kept_by x s slots (slot_cmp x s) refl stands.0 h.0 (nothing_changes slots s h.1 stands.1)

pub changed_nothing : (slots : List Slot) (s : Slot) (next : Option (Side × ℕ)) → IsStrictlySortedBy slot_cmp slots → Stands s slots → with_next s next ≡ s → changed s next slots ≡ slots
changed_nothing slots s next h stands e = ap (λ z. cond (has s slots) (put (without s slots) z) slots) e ∙ nothing_changes slots s h stands

-- SLOTS AT ONE PLACE are of one operator
pub then_equal : (o p : Ordering) → ordering_then o p ≡ Equal → (o ≡ Equal) × (p ≡ Equal)
then_equal Less p e = absurd (cc)
then_equal Equal p e = (refl, e)
then_equal Greater p e = absurd (cc)

nat_equal : (a b : ℕ) → nat_cmp a b ≡ Equal → a ≡ b
nat_equal a b e = subst (λ o. MatchOrdering o (a < b) (a ≡ b) (b < a)) e (ranks a b)

pub same_operator : (a b : Slot) → slot_cmp a b ≡ Equal → (a.query ≡ b.query) × (a.operator ≡ b.operator)
same_operator a b e =
    let one = then_equal (bool_cmp a.is_idle b.is_idle) _ e in
    let two = then_equal (fraction_cmp b.slope.0 a.slope.0) _ one.1 in
    let three = then_equal (nat_cmp a.instant b.instant) _ two.1 in
    let four = then_equal (nat_cmp a.query b.query) (nat_cmp a.operator b.operator) three.1 in
    (nat_equal a.query b.query four.0, nat_equal a.operator b.operator four.1)

-- ANOTHER OPERATOR'S slot stands as it did when one is changed
stands_without : (s a : Slot) (slots : List Slot) → Stands a slots → Stands a (without s slots)
stands_without s a [] h = tt
stands_without s a (y ∷ slots) h = by_test (not (is_eq (slot_cmp y s))) (stands_without s a slots h.1) where
  by_test : (b : Bool) → Stands a (without s slots) → Stands a (cond b (y ∷ without s slots) (without s slots))
  by_test true later = (h.0, later)
  by_test false later = later

stands_put : (s a : Slot) (slots : List Slot) → (slot_cmp s a ≡ Equal → s ≡ a) → Stands a slots → Stands a (put slots s)
stands_put s a [] is h = (is, tt)
stands_put s a (y ∷ slots) is h = by_order (slot_cmp s y) (stands_put s a slots is h.1) where
  by_order : (o : Ordering) → Stands a (put slots s) → Stands a (match_ordering o (s ∷ y ∷ slots) (y ∷ slots) (y ∷ put slots s))
  by_order Less later = (is, h)
  by_order Equal later = h
  by_order Greater later = (h.0, later)

stands_by : (b : Bool) (s a : Slot) (next : Option (Side × ℕ)) (slots : List Slot) → a.operator ≢ s.operator → Stands a slots → Stands a (cond b (put (without s slots) (with_next s next)) slots)
stands_by true s a next slots ne h = stands_put (with_next s next) a (without s slots) (λ e. absurd (ne (sym (same_operator (with_next s next) a e).1))) (stands_without s a slots h)
stands_by false s a next slots ne h = h

pub stands_on : (s a : Slot) (next : Option (Side × ℕ)) (slots : List Slot) → a.operator ≢ s.operator → Stands a slots → Stands a (changed s next slots)
stands_on s a next slots ne h = stands_by (has s slots) s a next slots ne h

-- The slots in the order in which they are leased: what a slot that comes or goes changes in it.
use Rattle.std.proofs.Common.{◌≡◌, ◌≢◌, ℕ, zero, suc, ◌<◌, ◌≤◌, Bool, true, false, not, ◌||◌, List, [], ◌∷◌, length, get_or, set, filter, cond, refl, sym, ap, ◌∙◌, arith}
use Rattle.std.proofs.lemmas.Cmp.{tied_itself}
use Rattle.std.proofs.lemmas.List.{get_or_default, set-get_or}
use Rattle.std.proofs.lemmas.List.Edits.{length-remove}
use Rattle.std.proofs.lemmas.Map.Keys.{sorted_head, sorted_tail}
use Rattle.std.specs.List.{AllByRecursion, HoldsAt, insert, remove}
use Rattle.std.specs.List.Sorted.{IsStrictlySortedBy}
use Rattle.std.specs.Ordering.{is_eq, match_ordering}
use Rattle.std.specs.declared.cmp.Ordering.{Ordering}
use Rattle.std.specs.declared.cmp.Ordering.TheVariants.{Less, Equal, Greater}
use Rattle.run_queue.specs.Places.{in_order, place_cmp}
use Rattle.run_queue.specs.Slots.{slot_cmp}
use Rattle.run_queue.specs.Changes.{put, has, without}
use Rattle.run_queue.specs.declared.slots.Slot.{Slot}
use Rattle.run_queue.proofs.PlaceLemmas.{others_differ}
use Rattle.run_queue.proofs.SlotLemmas.{higher, lower, none_ordered, put_ordered, same, slots_total}
use Rattle.run_queue.proofs.StandLemmas.{before_rest, has_none, put_first}

pub ordered : (slots : List Slot) → IsStrictlySortedBy slot_cmp (in_order slots)
ordered [] = none_ordered
ordered (x ∷ slots) = put_ordered (in_order slots) x (ordered slots)

-- HOW A SLOT COMES beside the first one
put_less : (s y : Slot) (slots : List Slot) → slot_cmp s y ≡ Less → put (y ∷ slots) s ≡ s ∷ y ∷ slots
put_less s y slots e = ap (λ o. match_ordering o (s ∷ y ∷ slots) (y ∷ slots) (y ∷ put slots s)) e

put_equal : (s y : Slot) (slots : List Slot) → slot_cmp s y ≡ Equal → put (y ∷ slots) s ≡ y ∷ slots
put_equal s y slots e = ap (λ o. match_ordering o (s ∷ y ∷ slots) (y ∷ slots) (y ∷ put slots s)) e

put_greater : (s y : Slot) (slots : List Slot) → slot_cmp s y ≡ Greater → put (y ∷ slots) s ≡ y ∷ put slots s
put_greater s y slots e = ap (λ o. match_ordering o (s ∷ y ∷ slots) (y ∷ slots) (y ∷ put slots s)) e

-- TWO SLOTS may come in either order
first_before : (a b y : Slot) (slots : List Slot) (o : Ordering) → slot_cmp a b ≡ Less → slot_cmp a y ≡ Less
    → put (match_ordering o (b ∷ y ∷ slots) (y ∷ slots) (y ∷ put slots b)) a ≡ a ∷ match_ordering o (b ∷ y ∷ slots) (y ∷ slots) (y ∷ put slots b)
first_before a b y slots Less e f = put_less a b (y ∷ slots) e
first_before a b y slots Equal e f = put_less a y slots f
first_before a b y slots Greater e f = put_less a y (put slots b) f

either_by : (a b y : Slot) (slots : List Slot) (o : Ordering) → slot_cmp a b ≡ Less → slot_cmp a y ≡ o → put (put slots a) b ≡ put (put slots b) a → put (put (y ∷ slots) a) b ≡ put (put (y ∷ slots) b) a
either_by a b y slots Less e f more =
    ap (λ l. put l b) (put_less a y slots f) ∙ put_greater b a (y ∷ slots) (lower a b e) ∙ sym (first_before a b y slots (slot_cmp b y) e f)
either_by a b y slots Equal e f more =
    let behind : slot_cmp b y ≡ Greater = lower y b (sym (slots_total.congr a y b f) ∙ e) in
    ap (λ l. put l b) (put_equal a y slots f) ∙ put_greater b y slots behind ∙ sym (put_equal a y (put slots b) f) ∙ ap (λ l. put l a) (sym (put_greater b y slots behind))
either_by a b y slots Greater e f more =
    let behind : slot_cmp b y ≡ Greater = lower y b (slots_total.trans y a b (higher a y f) e) in
    ap (λ l. put l b) (put_greater a y slots f) ∙ put_greater b y (put slots a) behind ∙ ap (λ l. y ∷ l) more
    ∙ sym (put_greater a y (put slots b) f) ∙ ap (λ l. put l a) (sym (put_greater b y slots behind))

lesser_first : (slots : List Slot) (a b : Slot) → slot_cmp a b ≡ Less → put (put slots a) b ≡ put (put slots b) a
lesser_first [] a b e = put_greater b a [] (lower a b e) ∙ sym (put_less a b [] e)
lesser_first (y ∷ slots) a b e = either_by a b y slots (slot_cmp a y) e refl (lesser_first slots a b e)

either_first : (slots : List Slot) (a b : Slot) (o : Ordering) → slot_cmp a b ≡ o → slot_cmp a b ≢ Equal → put (put slots a) b ≡ put (put slots b) a
either_first slots a b Less e n = lesser_first slots a b e
either_first slots a b Equal e n = absurd (n e)
either_first slots a b Greater e n = sym (lesser_first slots b a (higher a b e))

-- A SLOT THAT COMES between others
pub inserted : (slots : List Slot) (i : ℕ) (s : Slot) → i ≤ length slots → AllByRecursion (λ t. slot_cmp t s ≢ Equal) slots → in_order (insert slots i s) ≡ put (in_order slots) s
inserted [] zero s l n = refl
inserted [] (suc i) s l n = absurd (omega (arith, l))
inserted (x ∷ slots) zero s l n = refl
inserted (x ∷ slots) (suc i) s l n =
    ap (λ l. put l x) (inserted slots i s (omega (arith, l)) n.1) ∙ sym (either_first (in_order slots) x s (slot_cmp x s) refl n.0)

-- what is written at a place comes where another left
put_in : (slots : List Slot) (i : ℕ) (s : Slot) → i < length slots → set slots i s ≡ insert (remove slots i) i s
put_in [] i s l = absurd (omega (arith, l))
put_in (x ∷ slots) zero s l = refl
put_in (x ∷ slots) (suc i) s l = ap (λ l. x ∷ l) (put_in slots i s (omega (arith, l)))

pub written : (slots : List Slot) (i : ℕ) (s : Slot) → i < length slots → AllByRecursion (λ t. slot_cmp t s ≢ Equal) (remove slots i) → in_order (set slots i s) ≡ put (in_order (remove slots i)) s
written slots i s l n = ap in_order (put_in slots i s l) ∙ inserted (remove slots i) i s (omega (arith, length-remove slots i l)) n

pub written_itself : (slots : List Slot) (i : ℕ) (d : Slot) → i < length slots → AllByRecursion (λ t. slot_cmp t (get_or slots i d) ≢ Equal) (remove slots i)
    → in_order slots ≡ put (in_order (remove slots i)) (get_or slots i d)
written_itself slots i d l n = ap in_order (sym (set-get_or slots i d)) ∙ written slots i (get_or slots i d) l n

-- WHETHER A SLOT IS THERE
or_again : (b c : Bool) → (b || c) ≡ (b || (b || c))
or_again true c = refl
or_again false c = refl

or_swapped : (a b c : Bool) → (a || (b || c)) ≡ (b || (a || c))
or_swapped true true c = refl
or_swapped true false c = refl
or_swapped false b c = refl

has_by : (x y s : Slot) (slots : List Slot) (o : Ordering) → slot_cmp x y ≡ o → has s (put slots x) ≡ (is_eq (slot_cmp x s) || has s slots)
    → has s (match_ordering o (x ∷ y ∷ slots) (y ∷ slots) (y ∷ put slots x)) ≡ (is_eq (slot_cmp x s) || has s (y ∷ slots))
has_by x y s slots Less e more = refl
has_by x y s slots Equal e more = or_again (is_eq (slot_cmp y s)) (has s slots) ∙ ap (λ o. is_eq o || has s (y ∷ slots)) (sym (slots_total.congr x y s e))
has_by x y s slots Greater e more = ap (λ b. is_eq (slot_cmp y s) || b) more ∙ or_swapped (is_eq (slot_cmp y s)) (is_eq (slot_cmp x s)) (has s slots)

has_put : (slots : List Slot) (x s : Slot) → has s (put slots x) ≡ (is_eq (slot_cmp x s) || has s slots)
has_put [] x s = refl
has_put (y ∷ slots) x s = has_by x y s slots (slot_cmp x y) refl (has_put slots x s)

pub has_ordered : (slots : List Slot) (s : Slot) → has s (in_order slots) ≡ has s slots
has_ordered [] s = refl
has_ordered (x ∷ slots) s = has_put (in_order slots) x s ∙ ap (λ b. is_eq (slot_cmp x s) || b) (has_ordered slots s)

not_equal : (o : Ordering) → o ≢ Equal → is_eq o ≡ false
not_equal Less n = refl
not_equal Equal n = absurd (n refl)
not_equal Greater n = refl

pub has_not : (slots : List Slot) (s : Slot) → AllByRecursion (λ t. slot_cmp t s ≢ Equal) slots → has s slots ≡ false
has_not [] s n = refl
has_not (x ∷ slots) s n = ap (λ b. b || has s slots) (not_equal (slot_cmp x s) n.0) ∙ has_not slots s n.1

-- A SLOT THAT IS THERE does not come again
comes_once_by : (x s : Slot) (slots : List Slot) (o : Ordering) → slot_cmp s x ≡ o → AllByRecursion (λ t. slot_cmp x t ≡ Less) slots → has s (x ∷ slots) ≡ true
    → (has s slots ≡ true → put slots s ≡ slots) → put (x ∷ slots) s ≡ x ∷ slots
comes_once_by x s slots Less e before there more =
    let n : true ≡ false = sym there ∙ has_none s (x ∷ slots) (before_rest s x slots e before) in absurd (cc n)
comes_once_by x s slots Equal e before there more = put_equal s x slots e
comes_once_by x s slots Greater e before there more =
    put_greater s x slots e ∙ ap (λ l. x ∷ l) (more (sym (ap (λ o. is_eq o || has s slots) (higher s x e)) ∙ there))

pub comes_once : (slots : List Slot) (s : Slot) → IsStrictlySortedBy slot_cmp slots → has s slots ≡ true → put slots s ≡ slots
comes_once [] s h there = absurd (cc there)
comes_once (x ∷ slots) s h there = comes_once_by x s slots (slot_cmp s x) refl (sorted_head slot_cmp x slots h) there (comes_once slots s (sorted_tail slot_cmp x slots h))

-- A SLOT THAT GOES
or_parts : (b c : Bool) → (b || c) ≡ false → (b ≡ false) × (c ≡ false)
or_parts true c e = absurd (cc e)
or_parts false c e = (refl, e)

stays_first : (s y : Slot) (slots : List Slot) → is_eq (slot_cmp y s) ≡ false → without s (y ∷ slots) ≡ y ∷ without s slots
stays_first s y slots e = ap (λ b. cond (not b) (y ∷ without s slots) (without s slots)) e

none_goes : (slots : List Slot) (s : Slot) → has s slots ≡ false → without s slots ≡ slots
none_goes [] s n = refl
none_goes (y ∷ slots) s n =
    let parts = or_parts (is_eq (slot_cmp y s)) (has s slots) n in
    stays_first s y slots parts.0 ∙ ap (λ l. y ∷ l) (none_goes slots s parts.1)

goes_first : (x s : Slot) (slots : List Slot) → slot_cmp x s ≡ Equal → without s (x ∷ slots) ≡ without s slots
goes_first x s slots e = ap (λ o. cond (not (is_eq o)) (x ∷ without s slots) (without s slots)) e

goes_by : (x y s : Slot) (slots : List Slot) (o : Ordering) → slot_cmp x s ≡ Equal → has s (y ∷ slots) ≡ false → without s (put slots x) ≡ slots
    → without s (match_ordering o (x ∷ y ∷ slots) (y ∷ slots) (y ∷ put slots x)) ≡ y ∷ slots
goes_by x y s slots Less e n more = goes_first x s (y ∷ slots) e ∙ none_goes (y ∷ slots) s n
goes_by x y s slots Equal e n more = none_goes (y ∷ slots) s n
goes_by x y s slots Greater e n more = stays_first s y (put slots x) (or_parts (is_eq (slot_cmp y s)) (has s slots) n).0 ∙ ap (λ l. y ∷ l) more

goes_again : (slots : List Slot) (x s : Slot) → slot_cmp x s ≡ Equal → has s slots ≡ false → without s (put slots x) ≡ slots
goes_again [] x s e n = goes_first x s [] e
goes_again (y ∷ slots) x s e n = goes_by x y s slots (slot_cmp x y) e n (goes_again slots x s e (or_parts (is_eq (slot_cmp y s)) (has s slots) n).1)

pub alike : (slots : List Slot) (i : ℕ) (d c : Slot) → i < length slots → slot_cmp (get_or slots i c) (get_or slots i d) ≡ Equal
alike slots i d c l = ap (slot_cmp (get_or slots i c)) (get_or_default slots i d c l) ∙ tied_itself slots_total (get_or slots i c)

pub removed : (slots : List Slot) (s : Slot) (i : ℕ) → IsStrictlySortedBy place_cmp slots → i < length slots → HoldsAt (λ t. slot_cmp t s ≡ Equal) slots i → without s (in_order slots) ≡ in_order (remove slots i)
removed slots s i h l e =
    let x : Slot = get_or slots i s in
    ap (without s) (written_itself slots i s l (others_differ slots x i h l (λ d. alike slots i s d l)))
    ∙ goes_again (in_order (remove slots i)) x s (e s) (has_ordered (remove slots i) s ∙ has_not (remove slots i) s (others_differ slots s i h l e))

-- WITHOUT SOME
module _ (p : Slot → Bool) where
  passed_by : (P : Slot → Type 0) (b : Bool) (x : Slot) (slots : List Slot) → P x → AllByRecursion P slots → AllByRecursion P (cond b (x ∷ slots) slots)
  passed_by P true x slots one h = (one, h)
  passed_by P false x slots one h = h

  all_passed : (P : Slot → Type 0) (slots : List Slot) → AllByRecursion P slots → AllByRecursion P (filter p slots)
  all_passed P [] h = tt
  all_passed P (x ∷ slots) h = passed_by P (p x) x (filter p slots) h.0 (all_passed P slots h.1)

  passes_first : (b : Bool) (x : Slot) (slots : List Slot) → AllByRecursion (λ t. slot_cmp x t ≡ Less) slots → cond b (x ∷ slots) slots ≡ cond b (put slots x) slots
  passes_first true x slots h = sym (put_first x slots h)
  passes_first false x slots h = refl

  passes_behind : (b c : Bool) (x y : Slot) (slots : List Slot) → slot_cmp x y ≡ Greater
      → cond c (y ∷ cond b (put slots x) slots) (cond b (put slots x) slots) ≡ cond b (put (cond c (y ∷ slots) slots) x) (cond c (y ∷ slots) slots)
  passes_behind true true x y slots e = sym (put_greater x y slots e)
  passes_behind true false x y slots e = refl
  passes_behind false c x y slots e = refl

  passes_by : (x y : Slot) (slots : List Slot) (o : Ordering) → slot_cmp x y ≡ o → AllByRecursion (λ t. slot_cmp y t ≡ Less) slots → has x (y ∷ slots) ≡ false
      → filter p (put slots x) ≡ cond (p x) (put (filter p slots) x) (filter p slots)
      → filter p (match_ordering o (x ∷ y ∷ slots) (y ∷ slots) (y ∷ put slots x)) ≡ cond (p x) (put (filter p (y ∷ slots)) x) (filter p (y ∷ slots))
  passes_by x y slots Less e before n more = passes_first (p x) x (filter p (y ∷ slots)) (all_passed _ (y ∷ slots) (before_rest x y slots e before))
  passes_by x y slots Equal e before n more =
      let there : false ≡ true = sym (or_parts (is_eq (slot_cmp y x)) (has x slots) n).0 ∙ ap is_eq (same x y e) in absurd (cc there)
  passes_by x y slots Greater e before n more = ap (λ l. cond (p y) (y ∷ l) l) more ∙ passes_behind (p x) (p y) x y (filter p slots) e

  passes : (slots : List Slot) (x : Slot) → IsStrictlySortedBy slot_cmp slots → has x slots ≡ false → filter p (put slots x) ≡ cond (p x) (put (filter p slots) x) (filter p slots)
  passes [] x h n = refl
  passes (y ∷ slots) x h n =
      passes_by x y slots (slot_cmp x y) refl (sorted_head slot_cmp y slots h) n (passes slots x (sorted_tail slot_cmp y slots h) (or_parts (is_eq (slot_cmp y x)) (has x slots) n).1)

  filtered_by : (b : Bool) (x : Slot) (slots : List Slot) → in_order (filter p slots) ≡ filter p (in_order slots)
      → in_order (cond b (x ∷ filter p slots) (filter p slots)) ≡ cond b (put (filter p (in_order slots)) x) (filter p (in_order slots))
  filtered_by true x slots more = ap (λ l. put l x) more
  filtered_by false x slots more = more

  pub filtered : (slots : List Slot) → IsStrictlySortedBy place_cmp slots → in_order (filter p slots) ≡ filter p (in_order slots)
  filtered [] h = refl
  filtered (x ∷ slots) h =
      let n : has x (in_order slots) ≡ false = has_ordered slots x ∙ has_not slots x (others_differ (x ∷ slots) x 0 h (omega arith) (λ d. tied_itself slots_total x)) in
      filtered_by (p x) x slots (filtered slots (sorted_tail place_cmp x slots h)) ∙ sym (passes (in_order slots) x (ordered slots) n)

-- THE FIRST
all_put_by : (P : Slot → Type 0) (s y : Slot) (slots : List Slot) (o : Ordering) → P s → AllByRecursion P (y ∷ slots) → AllByRecursion P (put slots s)
    → AllByRecursion P (match_ordering o (s ∷ y ∷ slots) (y ∷ slots) (y ∷ put slots s))
all_put_by P s y slots Less one h more = (one, h)
all_put_by P s y slots Equal one h more = h
all_put_by P s y slots Greater one h more = (h.0, more)

all_put : (P : Slot → Type 0) (s : Slot) (slots : List Slot) → P s → AllByRecursion P slots → AllByRecursion P (put slots s)
all_put P s [] one h = (one, tt)
all_put P s (y ∷ slots) one h = all_put_by P s y slots (slot_cmp s y) one h (all_put P s slots one h.1)

pub all_ordered : (P : Slot → Type 0) (slots : List Slot) → AllByRecursion P slots → AllByRecursion P (in_order slots)
all_ordered P [] h = tt
all_ordered P (x ∷ slots) h = all_put P x (in_order slots) h.0 (all_ordered P slots h.1)

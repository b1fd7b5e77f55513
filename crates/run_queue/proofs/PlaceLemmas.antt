-- The slots by their operators: what a search finds, and that what comes and goes keeps them so.
use Rattle.std.proofs.Common.{◌≡◌, ◌≢◌, ℕ, zero, suc, ◌+◌, ◌-◌, ◌<◌, ◌≤◌, Result, Ok, Err, IfOk, IfErr, List, [], ◌∷◌, length, get_or, set, sym, ap, ◌∙◌, subst, ⊎_elim, arith}
use Rattle.std.proofs.lemmas.Bool.{cases_eq, cases_lt}
use Rattle.std.proofs.lemmas.Cmp.{tied_itself, then_total}
use Rattle.std.proofs.lemmas.List.{length-set, get_or-set_same, get_or-set_other}
use Rattle.std.proofs.lemmas.List.Edits.{length-insert, get_or-insert_below, get_or-insert_at, get_or-insert_above}
use Rattle.std.proofs.lemmas.List.Sorted.{searchable_from_sorted}
use Rattle.std.proofs.lemmas.Map.Keys.{Less-from_sorted, sorted_from_all_adjacent}
use Rattle.std.specs.Cmp.{IsTotalOrder, nat_cmp_total, on_total}
use Rattle.std.specs.List.{AllByRecursion, HoldsAt, insert, remove}
use Rattle.std.specs.List.Sorted.{IsStrictlySortedBy, IsBinarySearchResult, IsNonDecreasingBy, IsSearchInRange}
use Rattle.std.specs.Ordering.{is_lt, nat_cmp, ordering_index, ordering_reverse, ordering_then}
use Rattle.std.specs.declared.cmp.Ordering.TheVariants.{Less, Equal, Greater}
use Rattle.run_queue.specs.Places.{place_cmp, IsBetween, IsFound, IsMissing}
use Rattle.run_queue.specs.Slots.{slot_cmp}
use Rattle.run_queue.specs.declared.slots.Slot.{Slot}
use Rattle.run_queue.proofs.SlotLemmas.{same, slots_total}
use Rattle.run_queue.proofs.StandLemmas.{same_operator, then_equal}

pub places_total : IsTotalOrder place_cmp
places_total = then_total (on_total (λ (s : Slot). s.query) nat_cmp_total) (then_total (on_total (λ (s : Slot). s.operator) nat_cmp_total) slots_total)

comes_after : (a b : Slot) → place_cmp a b ≡ Less → place_cmp b a ≡ Greater
comes_after a b e = places_total.antisymm b a ∙ ap ordering_reverse e

comes_before : (a b : Slot) → place_cmp a b ≡ Greater → place_cmp b a ≡ Less
comes_before a b e = places_total.antisymm b a ∙ ap ordering_reverse e

-- ONE PLACE is one slot, but for its side
pub one_slot : (a b : Slot) → place_cmp a b ≡ Equal → slot_cmp a b ≡ Equal
one_slot a b e =
    let query = then_equal (nat_cmp a.query b.query) _ e in
    (then_equal (nat_cmp a.operator b.operator) (slot_cmp a b) query.1).1

pub one_place : (a b : Slot) → slot_cmp a b ≡ Equal → place_cmp a b ≡ Equal
one_place a b e =
    let both = same_operator a b e in
    let query : nat_cmp a.query b.query ≡ Equal = subst (λ n. nat_cmp a.query n ≡ Equal) both.0 (tied_itself nat_cmp_total a.query) in
    let operator : nat_cmp a.operator b.operator ≡ Equal = subst (λ n. nat_cmp a.operator n ≡ Equal) both.1 (tied_itself nat_cmp_total a.operator) in
    ap (λ o. ordering_then o (ordering_then (nat_cmp a.operator b.operator) (slot_cmp a b))) query
    ∙ ap (λ o. ordering_then o (slot_cmp a b)) operator ∙ e

-- WHAT A SEARCH FINDS
searchable : (slots : List Slot) (s : Slot) → IsStrictlySortedBy place_cmp slots → IsNonDecreasingBy (λ y. ordering_index (place_cmp y s)) slots
searchable slots s h = searchable_from_sorted places_total (λ t. t) slots s
    (λ k d p q. ap is_lt (comes_after (get_or slots k d) (get_or slots (k + 1) d) (Less-from_sorted place_cmp slots k (k + 1) d h (omega arith) q)))

pub searched : (slots : List Slot) (s : Slot) (r : Result ℕ ℕ) → IsStrictlySortedBy place_cmp slots → IsSearchInRange r (length slots) → IsBinarySearchResult (λ t. place_cmp t s) slots r
    → IfOk r (IsFound slots s) × IfErr r (IsMissing slots s)
searched slots s (Ok i) h l found = (record { within = l; equal = λ d. one_slot (get_or slots i d) s (found d) }, tt)
searched slots s (Err i) h l found = let p = found (searchable slots s h) in (tt, record { within = l; below = p.0; above = p.1 })

-- WHAT COMES AND GOES leaves them in their order
module _ (slots : List Slot) (s : Slot) (i : ℕ) (h : IsStrictlySortedBy place_cmp slots) where
  pub set_ordered : i < length slots → IsBetween slots s i → IsStrictlySortedBy place_cmp (set slots i s)
  set_ordered l b = sorted_from_all_adjacent places_total (set slots i s) s
      (λ k m.
      let w : k + 1 < length slots = omega (arith, m, length-set slots i s) in
      let x : Slot = get_or (set slots i s) k s in
      let y : Slot = get_or (set slots i s) (k + 1) s in
      let here : x ≡ s → y ≡ get_or slots (k + 1) s → k ≡ i → place_cmp x y ≡ Less = λ e f g.
      ap (λ z. place_cmp z y) e ∙ ap (place_cmp s) f ∙ comes_before (get_or slots (k + 1) s) s (ap (λ n. place_cmp (get_or slots (n + 1) s) s) g ∙ b.above (omega arith) s) in
      ⊎_elim
      (λ e. here (ap (λ n. get_or (set slots i s) n s) e ∙ get_or-set_same slots i s s l) (get_or-set_other slots i (k + 1) s s (λ f. absurd (omega arith))) e)
      (λ n. ap (λ z. place_cmp z y) (get_or-set_other slots i k s s n) ∙ ⊎_elim
      (λ e. ap (place_cmp (get_or slots k s)) (ap (λ n. get_or (set slots i s) n s) e ∙ get_or-set_same slots i s s l)
      ∙ ap (λ n. place_cmp (get_or slots n s) s) (let f : k ≡ i - 1 = omega arith in f) ∙ b.below (omega arith) s)
      (λ o. ap (place_cmp (get_or slots k s)) (get_or-set_other slots i (k + 1) s s o) ∙ Less-from_sorted place_cmp slots k (k + 1) s h (omega arith) w)
      (cases_eq (k + 1) i))
      (cases_eq k i))

  pub insert_ordered : IsMissing slots s i → IsStrictlySortedBy place_cmp (insert slots i s)
  insert_ordered m = sorted_from_all_adjacent places_total (insert slots i s) s
      (λ k w.
      let x : Slot = get_or (insert slots i s) k s in
      let y : Slot = get_or (insert slots i s) (k + 1) s in
      let within : i ≤ length slots = m.within in
      let v : k < length slots = omega (arith, w, length-insert slots i s within) in
      let here : k ≡ i → place_cmp x y ≡ Less = λ e.
      ap (λ z. place_cmp z y) (ap (λ n. get_or (insert slots i s) n s) e ∙ get_or-insert_at slots i s s within)
      ∙ ap (place_cmp s) (get_or-insert_above slots i s s k (omega arith) within) ∙ comes_before (get_or slots k s) s (m.above k s (omega arith) v) in
      let before : k < i → place_cmp x y ≡ Less = λ l.
      ap (λ z. place_cmp z y) (get_or-insert_below slots i s s k l within) ∙ ⊎_elim
      (λ e. ap (place_cmp (get_or slots k s)) (ap (λ n. get_or (insert slots i s) n s) e ∙ get_or-insert_at slots i s s within) ∙ m.below k s (omega arith) l)
      (λ n. ap (place_cmp (get_or slots k s)) (get_or-insert_below slots i s s (k + 1) (omega arith) within)
      ∙ Less-from_sorted place_cmp slots k (k + 1) s h (omega arith) (omega arith))
      (cases_eq (k + 1) i) in
      let behind : i < k → place_cmp x y ≡ Less = λ l.
      let e : k - 1 + 1 ≡ k = omega arith in
      ap (λ z. place_cmp z y) (ap (λ n. get_or (insert slots i s) n s) (sym e) ∙ get_or-insert_above slots i s s (k - 1) (omega arith) within)
      ∙ ap (place_cmp (get_or slots (k - 1) s)) (get_or-insert_above slots i s s k (omega arith) within)
      ∙ Less-from_sorted place_cmp slots (k - 1) k s h (omega arith) v in
      ⊎_elim before (λ l. ⊎_elim here (λ n. behind (omega arith)) (cases_eq k i)) (cases_lt k i))

without_one : (x : Slot) (slots : List Slot) (at : ℕ) → AllByRecursion (λ t. place_cmp x t ≡ Less) slots → AllByRecursion (λ t. place_cmp x t ≡ Less) (remove slots at)
without_one x [] zero h = tt
without_one x [] (suc at) h = tt
without_one x (y ∷ slots) zero h = h.1
without_one x (y ∷ slots) (suc at) h = (h.0, without_one x slots at h.1)

pub remove_ordered : (slots : List Slot) (at : ℕ) → IsStrictlySortedBy place_cmp slots → IsStrictlySortedBy place_cmp (remove slots at)
unfolding IsStrictlySortedBy
remove_ordered [] zero h = tt
remove_ordered [] (suc at) h = tt
remove_ordered (x ∷ slots) zero h = h.1
remove_ordered (x ∷ slots) (suc at) h = (without_one x slots at h.0, remove_ordered slots at h.1)

-- THE OTHERS are at other places
pub all_at : (P : Slot → Type 0) (slots : List Slot) → ((k : ℕ) (d : Slot) → k < length slots → P (get_or slots k d)) → AllByRecursion P slots
all_at P [] h = tt
all_at P (x ∷ slots) h = (h zero x (omega arith), all_at P slots (λ k d l. h (suc k) d (omega (arith, l))))

pub all_removed : (P : Slot → Type 0) (slots : List Slot) (i : ℕ) → ((k : ℕ) (d : Slot) → k < length slots → k ≢ i → P (get_or slots k d)) → AllByRecursion P (remove slots i)
all_removed P [] zero h = tt
all_removed P [] (suc i) h = tt
all_removed P (x ∷ slots) zero h = all_at P slots (λ k d l. h (suc k) d (omega (arith, l)) (λ e. absurd (omega (arith, e))))
all_removed P (x ∷ slots) (suc i) h = (h zero x (omega arith) (λ e. absurd (omega (arith, e))), all_removed P slots i (λ k d l n. h (suc k) d (omega (arith, l)) (λ e. n (omega (arith, e)))))

pub differs : (slots : List Slot) (i k : ℕ) (d : Slot) → IsStrictlySortedBy place_cmp slots → i < length slots → k < length slots → k ≢ i → slot_cmp (get_or slots k d) (get_or slots i d) ≢ Equal
differs slots i k d h l m n e =
    let p : place_cmp (get_or slots k d) (get_or slots i d) ≡ Equal = one_place (get_or slots k d) (get_or slots i d) e in
    ⊎_elim
    (λ b. let f : Less ≡ Equal = sym (Less-from_sorted place_cmp slots k i d h b l) ∙ p in absurd (cc f))
    (λ b. let f : Greater ≡ Equal = sym (comes_after (get_or slots i d) (get_or slots k d) (Less-from_sorted place_cmp slots i k d h (omega arith) m)) ∙ p in absurd (cc f))
    (cases_lt k i)

pub others_differ : (slots : List Slot) (s : Slot) (i : ℕ) → IsStrictlySortedBy place_cmp slots → i < length slots → HoldsAt (λ t. slot_cmp t s ≡ Equal) slots i
    → AllByRecursion (λ t. slot_cmp t s ≢ Equal) (remove slots i)
others_differ slots s i h l e = all_removed (λ t. slot_cmp t s ≢ Equal) slots i
    (λ k d m n f. differs slots i k d h l m n (slots_total.congr (get_or slots k d) s (get_or slots i d) f ∙ same (get_or slots i d) s (e d)))

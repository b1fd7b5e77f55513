-- How the slots are kept: what each change leaves, and what it is in the order in which they are leased.
use Rattle.std.proofs.Common.{◌≡◌, ◌≢◌, ℕ, zero, suc, ◌+◌, ◌/◌, ◌<◌, ◌≤◌, Bool, true, false, not, ◌==◌, Option, None, Some, List, [], ◌∷◌, length, get_or, set, filter, cond, refl, sym, ap, ◌∙◌, subst, ⊎_elim, arith}
use Rattle.std.proofs.lemmas.Bool.{cases_lt}
use Rattle.std.proofs.lemmas.Cmp.{tied_itself}
use Rattle.std.proofs.lemmas.List.{length-set, get_or-set_other, get_or-set_same}
use Rattle.std.proofs.lemmas.List.Edits.{length-insert, get_or-insert_below}
use Rattle.std.proofs.lemmas.List.Kept.{IsStrictlySortedBy-filter}
use Rattle.std.proofs.lemmas.Option.{get_or_from_slice_get, slice_get-get_or, slice_get_past, slice_get_within}
use Rattle.std.specs.List.{AllByRecursion, insert, remove, slice_get}
use Rattle.std.specs.List.Sorted.{IsStrictlySortedBy}
use Rattle.std.specs.Ordering.{is_gt}
use Rattle.std.specs.declared.cmp.Ordering.{Ordering}
use Rattle.std.specs.declared.cmp.Ordering.TheVariants.{Less, Equal, Greater}
use Rattle.column.specs.declared.batch.Side.{Side}
use Rattle.run_queue.specs.Places.{in_order, place_cmp, winner_at, IsBetween, IsFound, IsKept, IsMissing, IsPlayed, IsPlayedBeside}
use Rattle.run_queue.specs.Slots.{slot_cmp, first_of}
use Rattle.run_queue.specs.Changes.{changed, put, with_next, without, without_query, Stands}
use Rattle.run_queue.specs.declared.slots.Slot.{Slot}
use Rattle.run_queue.proofs.OrderLemmas.{alike, all_ordered, comes_once, filtered, has_not, has_ordered, inserted, ordered, removed, written, written_itself}
use Rattle.run_queue.proofs.PlaceLemmas.{all_at, all_removed, differs, insert_ordered, one_place, others_differ, set_ordered}
use Rattle.run_queue.proofs.SlotLemmas.{has_at, same, slots_total}
use Rattle.run_queue.proofs.StandLemmas.{changed_nothing, put_first}
use Rattle.run_queue.proofs.TournamentLemmas.{beside_place, root, NotAfter}

none_by_place : IsStrictlySortedBy place_cmp []
unfolding IsStrictlySortedBy
none_by_place = tt

pub none_kept : (slots : List Slot) (winners : List ℕ) → slots ≡ [] → winners ≡ [] → IsKept slots winners
none_kept slots winners e f = record {
  ordered = subst (IsStrictlySortedBy place_cmp) (sym e) none_by_place;
  room = omega (arith, ap (length {A = Slot}) e);
  played = record { each = λ i l h. absurd (omega (arith, h, ap (length {A = ℕ}) f)) };
}

-- A SLOT THAT COMES
missing_differs : (slots : List Slot) (s : Slot) (i : ℕ) → IsMissing slots s i → AllByRecursion (λ t. slot_cmp t s ≢ Equal) slots
missing_differs slots s i m = all_at (λ t. slot_cmp t s ≢ Equal) slots
    (λ k d l e.
    let p : place_cmp (get_or slots k d) s ≡ Equal = one_place (get_or slots k d) s e in
    ⊎_elim
    (λ b. let f : Less ≡ Equal = sym (m.below k d (omega arith) b) ∙ p in absurd (cc f))
    (λ b. let f : Greater ≡ Equal = sym (m.above k d b l) ∙ p in absurd (cc f))
    (cases_lt k i))

pub put_missing : (slots : List Slot) (s : Slot) (i : ℕ) → IsMissing slots s i → in_order (insert slots i s) ≡ put (in_order slots) s
put_missing slots s i m = inserted slots i s m.within (missing_differs slots s i m)

pub put_found : (slots : List Slot) (s : Slot) (i : ℕ) → IsFound slots s i → in_order slots ≡ put (in_order slots) s
put_found slots s i f = sym (comes_once (in_order slots) s (ordered slots) (has_ordered slots s ∙ has_at slots s i f.within f.equal))

pub put_kept : (slots : List Slot) (winners : List ℕ) (s : Slot) (i : ℕ) (with_it : List Slot) (played : List ℕ) → IsKept slots winners → length slots < length winners → IsMissing slots s i
    → with_it ≡ insert slots i s → length played ≡ length winners → IsPlayed with_it played → IsKept with_it played
put_kept slots winners s i with_it played kept room m e l p = record {
  ordered = subst (IsStrictlySortedBy place_cmp) (sym e) (insert_ordered slots s i kept.ordered m);
  room = omega (arith, ap (length {A = Slot}) e, length-insert slots i s m.within, room, l);
  played = p;
}

-- A SLOT THAT CHANGES
pub change_kept : (slots : List Slot) (winners : List ℕ) (c : Slot) (i : ℕ) (played : List ℕ) → IsKept slots winners → i < length slots → IsBetween slots c i
    → length played ≡ length winners → IsPlayed (set slots i c) played → IsKept (set slots i c) played
change_kept slots winners c i played kept within b l p = record {
  ordered = set_ordered slots c i kept.ordered within b;
  room = omega (arith, length-set slots i c, kept.room, l);
  played = p;
}

changed_there : (slots : List Slot) (s c : Slot) (next : Option (Side × ℕ)) (i : ℕ) → IsStrictlySortedBy place_cmp slots → IsFound slots s i → c ≡ with_next s next
    → put (in_order (remove slots i)) c ≡ changed s next (in_order slots)
changed_there slots s c next i h f e =
    ap (put (in_order (remove slots i))) e ∙ ap (λ l. put l (with_next s next)) (sym (removed slots s i h f.within f.equal))
    ∙ ap (λ b. cond b (put (without s (in_order slots)) (with_next s next)) (in_order slots)) (sym (has_ordered slots s ∙ has_at slots s i f.within f.equal))

remove-set : (slots : List Slot) (i : ℕ) (c : Slot) → remove (set slots i c) i ≡ remove slots i
remove-set [] zero c = refl
remove-set [] (suc i) c = refl
remove-set (x ∷ slots) zero c = refl
remove-set (x ∷ slots) (suc i) c = ap (λ l. x ∷ l) (remove-set slots i c)

pub changed_here : (slots : List Slot) (s c : Slot) (next : Option (Side × ℕ)) (i : ℕ) → IsStrictlySortedBy place_cmp slots → IsFound slots s i → IsBetween slots c i → c ≡ with_next s next
    → in_order (set slots i c) ≡ changed s next (in_order slots)
changed_here slots s c next i h f b e =
    let n = others_differ (set slots i c) c i (set_ordered slots c i h f.within b) (omega (arith, f.within, length-set slots i c))
    (λ d. ap (λ t. slot_cmp t c) (get_or-set_same slots i c d f.within) ∙ tied_itself slots_total c) in
    written slots i c f.within (subst (AllByRecursion (λ t. slot_cmp t c ≢ Equal)) (remove-set slots i c) n) ∙ changed_there slots s c next i h f e

pub changed_elsewhere : (slots kept : List Slot) (s c : Slot) (next : Option (Side × ℕ)) (i : ℕ) → IsStrictlySortedBy place_cmp slots → IsFound slots s i → c ≡ with_next s next
    → in_order kept ≡ put (in_order (remove slots i)) c → in_order kept ≡ changed s next (in_order slots)
changed_elsewhere slots kept s c next i h f e k = k ∙ changed_there slots s c next i h f e

pub changed_nowhere : (slots : List Slot) (s : Slot) (next : Option (Side × ℕ)) (i : ℕ) → IsMissing slots s i → in_order slots ≡ changed s next (in_order slots)
changed_nowhere slots s next i m =
    ap (λ b. cond b (put (without s (in_order slots)) (with_next s next)) (in_order slots)) (sym (has_ordered slots s ∙ has_not slots s (missing_differs slots s i m)))

-- SLOTS THAT GO
passed : (p : Slot → Bool) (slots : List Slot) → length (filter p slots) ≤ length slots
passed p [] = omega arith
passed p (x ∷ slots) = passed_by (p x) (passed p slots) where
  passed_by : (b : Bool) → length (filter p slots) ≤ length slots → length (cond b (x ∷ filter p slots) (filter p slots)) ≤ length (x ∷ slots)
  passed_by true l = omega (arith, l)
  passed_by false l = omega (arith, l)

module _ (slots : List Slot) (winners : List ℕ) (query : ℕ) (kept : IsKept slots winners) where
  pub query_goes : in_order (without_query query slots) ≡ without_query query (in_order slots)
  query_goes = filtered (λ s. not (s.query == query)) slots kept.ordered

  pub query_kept : (left : List Slot) (played : List ℕ) → left ≡ without_query query slots → length played ≡ length winners → IsPlayed left played → IsKept left played
  query_kept left played e l p = record {
    ordered = subst (IsStrictlySortedBy place_cmp) (sym e) (IsStrictlySortedBy-filter place_cmp (λ s. not (s.query == query)) slots kept.ordered);
    room = omega (arith, ap (length {A = Slot}) e, passed (λ s. not (s.query == query)) slots, kept.room, l);
    played = p;
  }

-- WHAT IS TO BE PLAYED AGAIN
pub again_behind : (slots : List Slot) (winners : List ℕ) (s : Slot) (at : ℕ) → at ≡ length slots → IsPlayed slots winners → IsPlayedBeside (insert slots at s) winners ((length winners + at) / 2)
again_behind slots winners s at e p = beside_place slots (insert slots at s) winners at p
    (λ k n. ⊎_elim
    (λ l. slice_get-get_or (insert slots at s) k s (omega (arith, length-insert slots at s (omega arith)))
    ∙ ap Some (get_or-insert_below slots at s s k l (omega arith)) ∙ sym (slice_get-get_or slots k s (omega arith)))
    (λ l. slice_get_past (insert slots at s) k (omega (arith, length-insert slots at s (omega arith))) ∙ sym (slice_get_past slots k (omega arith)))
    (cases_lt k at))

pub again_at : (slots : List Slot) (winners : List ℕ) (s : Slot) (at : ℕ) → IsPlayed slots winners → IsPlayedBeside (set slots at s) winners ((length winners + at) / 2)
again_at slots winners s at p = beside_place slots (set slots at s) winners at p
    (λ k n. ⊎_elim
    (λ l. slice_get-get_or (set slots at s) k s (omega (arith, length-set slots at s))
    ∙ ap Some (get_or-set_other slots at k s s n) ∙ sym (slice_get-get_or slots k s l))
    (λ l. slice_get_past (set slots at s) k (omega (arith, length-set slots at s)) ∙ sym (slice_get_past slots k l))
    (cases_lt k (length slots)))

-- THE WINNER is the first
not_later : (m t : Slot) (o : Ordering) → slot_cmp m t ≡ o → o ≢ Equal → is_gt o ≡ false → o ≡ Less
not_later m t Less e n g = refl
not_later m t Equal e n g = absurd (n refl)
not_later m t Greater e n g = absurd (cc g)

pub leads : (slots : List Slot) (winners : List ℕ) (m : Slot) → IsKept slots winners → slice_get slots (winner_at winners 1) ≡ Some m → first_of (in_order slots) ≡ cond m.is_idle None (Some m)
leads slots winners m kept e =
    let r : ℕ = winner_at winners 1 in
    let l : r < length slots = slice_get_within slots r m e in
    let is : (d : Slot) → get_or slots r d ≡ m = λ d. get_or_from_slice_get slots r m d e in
    let behind : AllByRecursion (λ t. slot_cmp m t ≡ Less) (remove slots r) = all_removed (λ t. slot_cmp m t ≡ Less) slots r
    (λ k d w n.
    let t : Slot = get_or slots k d in
    not_later m t (slot_cmp m t) refl
    (λ f. differs slots r k d kept.ordered l w n (ap (slot_cmp t) (is d) ∙ same m t f))
    (subst (λ o. NotAfter (Some m) o) (slice_get-get_or slots k d w)
    (subst (λ o. NotAfter o (slice_get slots k)) e (root slots winners kept.played k w kept.room)))) in
    ap first_of (written_itself slots r m l (others_differ slots (get_or slots r m) r kept.ordered l (λ d. alike slots r m d l))
    ∙ ap (put (in_order (remove slots r))) (is m) ∙ put_first m (in_order (remove slots r)) (all_ordered (λ t. slot_cmp m t ≡ Less) (remove slots r) behind))

pub no_winner : (slots : List Slot) (winners : List ℕ) → IsKept slots winners → slice_get slots (winner_at winners 1) ≡ None → in_order slots ≡ []
no_winner [] winners kept e = refl
no_winner (s ∷ slots) winners kept e = absurd (subst (λ o. NotAfter o (Some s)) e (root (s ∷ slots) winners kept.played 0 (omega arith) kept.room))

-- NOTHING CHANGES where the operator gets what it had
pub same_order : (slots : List Slot) (s : Slot) (next : Option (Side × ℕ)) → Stands s (in_order slots) → with_next s next ≡ s → in_order slots ≡ changed s next (in_order slots)
same_order slots s next h e = sym (changed_nothing (in_order slots) s next (ordered slots) h e)

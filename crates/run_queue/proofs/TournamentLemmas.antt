-- The tournament over the places: what a match leaves played, and who wins.
use Rattle.std.proofs.Common.{◌≡◌, ◌≢◌, ℕ, zero, suc, ◌+◌, ◌-◌, ◌*◌, ◌/◌, ◌<◌, ◌≤◌, Bool, true, false, ltb, Option, Some, None, List, length, get_or, set, cond, refl, sym, ap, ◌∙◌, subst, ⊎_elim, ◌⊎◌, inl, inr, arith}
use Rattle.std.proofs.lemmas.Bool.{cases_eq, cases_lt}
use Rattle.std.proofs.lemmas.Bool.Decides.{nat_tests}
use Rattle.std.proofs.lemmas.Cmp.{tied_itself, upto}
use Rattle.std.proofs.lemmas.List.{length-set, get_or-set_same, get_or-set_other, get_or_past}
use Rattle.std.proofs.lemmas.Option.{slice_get_past, slice_get_read}
use Rattle.std.specs.List.{slice_get}
use Rattle.std.specs.Ordering.{is_gt, is_lt, ordering_reverse}
use Rattle.std.specs.declared.cmp.Ordering.{Ordering}
use Rattle.std.specs.declared.cmp.Ordering.TheVariants.{Less, Equal, Greater}
use Rattle.run_queue.specs.Slots.{slot_cmp}
use Rattle.run_queue.specs.Places.{better, halved, winner_at, wins, with_match, won, IsAbove, IsMatch, IsPlayed, IsPlayedBeside, IsPlayedFrom}
use Rattle.run_queue.specs.declared.slots.Slot.{Slot}
use Rattle.run_queue.proofs.SlotLemmas.{same, slots_total}

-- WHAT A MATCH LEAVES PLAYED: its own, and each that it is no player of
winner-other : (winners : List ℕ) (node v j : ℕ) → j ≢ node → winner_at (set winners node v) j ≡ winner_at winners j
winner-other winners node v j n =
    ap (λ m. get_or (set winners node v) j (j - m)) (length-set winners node v) ∙ get_or-set_other winners node j v (j - length winners) n

winner-same : (winners : List ℕ) (node v : ℕ) → node < length winners → winner_at (set winners node v) node ≡ v
winner-same winners node v l = get_or-set_same winners node v _ l

won-other : (slots : List Slot) (winners : List ℕ) (node v i : ℕ) → 2 * i ≢ node → 2 * i + 1 ≢ node → won slots (set winners node v) i ≡ won slots winners i
won-other slots winners node v i m n =
    ap (λ w. better slots w (winner_at (set winners node v) (2 * i + 1))) (winner-other winners node v (2 * i) m)
    ∙ ap (better slots (winner_at winners (2 * i))) (winner-other winners node v (2 * i + 1) n)

match_here : (slots : List Slot) (winners : List ℕ) (node : ℕ) → 0 < node → node < length winners → IsMatch slots (with_match slots winners node) node
match_here slots winners node l h = record {
  is = winner-same winners node (won slots winners node) h ∙ sym (won-other slots winners node (won slots winners node) node (omega arith) (omega arith));
}

match_there : (slots : List Slot) (winners : List ℕ) (node i : ℕ) → i ≢ node → 2 * i ≢ node → 2 * i + 1 ≢ node → IsMatch slots winners i → IsMatch slots (with_match slots winners node) i
match_there slots winners node i n l r m = record {
  is = winner-other winners node (won slots winners node) i n ∙ m.is ∙ sym (won-other slots winners node (won slots winners node) i l r);
}

-- THE WAY FROM A PLACE to the root
above_more : (i node : ℕ) → i ≢ node → (IsAbove i (node / 2) → ⊥) → IsAbove i node → ⊥
above_more i node n never a = by_matches a.matches a.is where
  by_matches : (k : ℕ) → halved k node ≡ i → ⊥
  by_matches zero e = n (sym e)
  by_matches (suc k) e = never (record { matches = k; is = e })

parent_above : (i node : ℕ) → node / 2 ≡ i → IsAbove i (node / 2)
parent_above i node e = record { matches = zero; is = e }

pub beside_more : (slots : List Slot) (winners : List ℕ) (node : ℕ) → 0 < node → node < length winners → IsPlayedBeside slots winners node → IsPlayedBeside slots (with_match slots winners node) (node / 2)
beside_more slots winners node l h p = record {
  each = λ i b w never. ⊎_elim
      (λ e. subst (IsMatch slots (with_match slots winners node)) (sym e) (match_here slots winners node l h))
      (λ n. match_there slots winners node i n
      (λ e. never (parent_above i node (omega (arith, e)))) (λ e. never (parent_above i node (omega (arith, e))))
      (p.each i b (omega (arith, w, length-set winners node (won slots winners node))) (above_more i node n never)))
      (cases_eq i node);
}

halved-zero : (k : ℕ) → halved k 0 ≡ 0
halved-zero zero = refl
halved-zero (suc k) = halved-zero k

pub beside_all : (slots : List Slot) (winners : List ℕ) (node : ℕ) → node ≡ 0 → IsPlayedBeside slots winners node → IsPlayed slots winners
beside_all slots winners node e p = record {
  each = λ i l h. p.each i l h (λ a. absurd (omega (arith, l, ap (halved a.matches) e, a.is, halved-zero a.matches)));
}

pub from_more : (slots : List Slot) (winners : List ℕ) (node : ℕ) → 0 < node → node < length winners → IsPlayedFrom slots winners (node + 1) → IsPlayedFrom slots (with_match slots winners node) node
from_more slots winners node l h p = record {
  each = λ i b w m. ⊎_elim
      (λ e. subst (IsMatch slots (with_match slots winners node)) (sym e) (match_here slots winners node l h))
      (λ n. match_there slots winners node i n (omega arith) (omega arith)
      (p.each i b (omega (arith, w, length-set winners node (won slots winners node))) (omega arith)))
      (cases_eq i node);
}

pub from_none : (slots : List Slot) (winners : List ℕ) (node : ℕ) → length winners ≤ node → IsPlayedFrom slots winners node
from_none slots winners node l = record { each = λ i b w m. absurd (omega arith) }

pub from_all : (slots : List Slot) (winners : List ℕ) (node : ℕ) → node ≤ 1 → IsPlayedFrom slots winners node → IsPlayed slots winners
from_all slots winners node l p = record { each = λ i b w. p.each i b w (omega arith) }

-- what the loops go by: that from a place to the root, and that from the last node
pub ruleset to_root = (beside_more, beside_all)

pub ruleset from_last = (from_more, from_all, from_none)

-- WHERE A WINNER COMES FROM: its place plays for the node
halved-last : (k node : ℕ) → halved k (node / 2) ≡ halved k node / 2
halved-last zero node = refl
halved-last (suc k) node = halved-last k (node / 2)

above_child : (j node c : ℕ) → c / 2 ≡ j → IsAbove c node → IsAbove j node
above_child j node c e a = record { matches = suc a.matches; is = halved-last a.matches node ∙ ap (λ n. n / 2) a.is ∙ e }

above_parent : (j node c : ℕ) → c / 2 ≡ j → IsAbove c node → IsAbove j (node / 2)
above_parent j node c e a = record { matches = a.matches; is = halved-last a.matches node ∙ ap (λ n. n / 2) a.is ∙ e }

cond_either : (P : ℕ → Type 0) (b : Bool) (i j : ℕ) → P i → P j → P (cond b i j)
cond_either P true i j p q = p
cond_either P false i j p q = q

pub leaf : (winners : List ℕ) (j : ℕ) → length winners ≤ j → winner_at winners j ≡ j - length winners
leaf winners j l = get_or_past winners j (j - length winners) l

module _ (slots : List Slot) (winners : List ℕ) (p : IsPlayed slots winners) where
  -- with as much fuel as there are nodes after it
  comes_by : (fuel j : ℕ) → 0 < j → j < 2 * length winners → 2 * length winners ≤ j + fuel → IsAbove j (length winners + winner_at winners j)
  comes_by zero j b w f = absurd (omega arith)
  comes_by (suc fuel) j b w f = ⊎_elim
      (λ l. let Q : ℕ → Type 0 = λ v. IsAbove j (length winners + v) in
      subst Q (sym (p.each j b l).is) (cond_either Q _ (winner_at winners (2 * j)) (winner_at winners (2 * j + 1))
      (above_child j _ (2 * j) (omega arith) (comes_by fuel (2 * j) (omega arith) (omega arith) (omega (arith, f))))
      (above_child j _ (2 * j + 1) (omega arith) (comes_by fuel (2 * j + 1) (omega arith) (omega arith) (omega (arith, f))))))
      (λ l. record { matches = zero; is = omega (arith, leaf winners j l) })
      (cases_lt j (length winners))

  comes_from : (j : ℕ) → 0 < j → j < 2 * length winners → IsAbove j (length winners + winner_at winners j)
  comes_from j b w = comes_by (2 * length winners) j b w (omega arith)

-- what a read of a place gives
pub there : (slots : List Slot) (i : ℕ) (x : Slot) → true ≡ ltb i (length slots) → x ≡ get_or slots i x → slice_get slots i ≡ Some x
there slots i x t e = let l : i < length slots = grind (arith, nat_tests) in slice_get_read slots (length slots) i x refl l e

pub gone : (slots : List Slot) (i : ℕ) → false ≡ ltb i (length slots) → slice_get slots i ≡ None
gone slots i f = let l : length slots ≤ i = grind (arith, nat_tests) in slice_get_past slots i l

-- where the first of two does not win, the second does
other_by : (o : Ordering) (i j : ℕ) → (o ≡ Less → ⊥) → j ≡ cond (is_lt o) i j
other_by Less i j n = absurd (n refl)
other_by Equal i j n = refl
other_by Greater i j n = refl

pub other_wins : (slots : List Slot) (i j : ℕ) (a b : Slot) → slice_get slots i ≡ Some a → slice_get slots j ≡ Some b → (slot_cmp a b ≡ Less → ⊥) → j ≡ better slots i j
other_wins slots i j a b e f n = other_by (slot_cmp a b) i j n ∙ ap (λ y. cond (wins (Some a) y) i j) (sym f) ∙ ap (λ x. cond (wins x (slice_get slots j)) i j) (sym e)

-- ANOTHER SLOT AT A PLACE: only the matches on its way are to be played again
better-other : (slots kept : List Slot) (i j : ℕ) → slice_get kept i ≡ slice_get slots i → slice_get kept j ≡ slice_get slots j → better kept i j ≡ better slots i j
better-other slots kept i j e f = ap (λ x. cond (wins x (slice_get kept j)) i j) e ∙ ap (λ y. cond (wins (slice_get slots i) y) i j) f

pub beside_place : (slots kept : List Slot) (winners : List ℕ) (place : ℕ) → IsPlayed slots winners → ((k : ℕ) → k ≢ place → slice_get kept k ≡ slice_get slots k)
    → IsPlayedBeside kept winners ((length winners + place) / 2)
beside_place slots kept winners place p others = record {
  each = λ i b w never.
      let away : (j : ℕ) → j / 2 ≡ i → 0 < j → j < 2 * length winners → winner_at winners j ≢ place =
      λ j e c l h. never (above_parent i (length winners + place) j e (subst (λ v. IsAbove j (length winners + v)) h (comes_from slots winners p j c l))) in
      record {
        is = (p.each i b w).is ∙ sym (better-other slots kept _ _
            (others _ (away (2 * i) (omega arith) (omega arith) (omega arith))) (others _ (away (2 * i + 1) (omega arith) (omega arith) (omega arith))));
      };
}

-- WHO WINS: no slot comes before the root's
abbrev pub NotAfter : Option Slot → Option Slot → Type 0
NotAfter None None = Unit {0}
NotAfter None (Some b) = ⊥
NotAfter (Some a) None = Unit {0}
NotAfter (Some a) (Some b) = is_gt (slot_cmp a b) ≡ false

itself : (a : Option Slot) → NotAfter a a
itself None = tt
itself (Some a) = ap is_gt (tied_itself slots_total a)

not_after : (a b c : Option Slot) → NotAfter a b → NotAfter b c → NotAfter a c
not_after None None c h k = k
not_after None (Some b) c h k = absurd h
not_after (Some a) b None h k = tt
not_after (Some a) None (Some c) h k = absurd k
not_after (Some a) (Some b) (Some c) h k = upto slots_total a b c h k

-- the winner of two is not after either
first_by : (a b : Slot) (o : Ordering) → slot_cmp a b ≡ o → NotAfter (cond (is_lt o) (Some a) (Some b)) (Some a) × NotAfter (cond (is_lt o) (Some a) (Some b)) (Some b)
first_by a b Less e = (ap is_gt (tied_itself slots_total a), ap is_gt e)
first_by a b Equal e = (ap is_gt (same a b e), ap is_gt (tied_itself slots_total b))
first_by a b Greater e = (ap is_gt (slots_total.antisymm b a ∙ ap ordering_reverse e), ap is_gt (tied_itself slots_total b))

first_of_two : (a b : Option Slot) → NotAfter (cond (wins a b) a b) a × NotAfter (cond (wins a b) a b) b
first_of_two None b = (none_last b, itself b) where
  none_last : (b : Option Slot) → NotAfter b None
  none_last None = tt
  none_last (Some b) = tt
first_of_two (Some a) None = (itself (Some a), tt)
first_of_two (Some a) (Some b) = first_by a b (slot_cmp a b) refl

get-cond : (slots : List Slot) (b : Bool) (i j : ℕ) → slice_get slots (cond b i j) ≡ cond b (slice_get slots i) (slice_get slots j)
get-cond slots true i j = refl
get-cond slots false i j = refl

beats : (slots : List Slot) (i j : ℕ) → NotAfter (slice_get slots (better slots i j)) (slice_get slots i) × NotAfter (slice_get slots (better slots i j)) (slice_get slots j)
beats slots i j =
    let e = get-cond slots (wins (slice_get slots i) (slice_get slots j)) i j in
    let both = first_of_two (slice_get slots i) (slice_get slots j) in
    (subst (λ x. NotAfter x (slice_get slots i)) (sym e) both.0, subst (λ x. NotAfter x (slice_get slots j)) (sym e) both.1)

halves : (j : ℕ) → (j ≡ 2 * (j / 2)) ⊎ (j ≡ 2 * (j / 2) + 1)
halves j = ⊎_elim (λ e. inl e) (λ n. inr (omega arith)) (cases_eq j (2 * (j / 2)))

module _ (slots : List Slot) (winners : List ℕ) (p : IsPlayed slots winners) where
  beats_child : (i j : ℕ) → 0 < i → i < length winners → (j ≡ 2 * i) ⊎ (j ≡ 2 * i + 1) → NotAfter (slice_get slots (winner_at winners i)) (slice_get slots (winner_at winners j))
  beats_child i j b w c =
      let both = beats slots (winner_at winners (2 * i)) (winner_at winners (2 * i + 1)) in
      subst (λ v. NotAfter (slice_get slots v) (slice_get slots (winner_at winners j))) (sym (p.each i b w).is)
      (⊎_elim
      (λ e. subst (λ n. NotAfter (slice_get slots (won slots winners i)) (slice_get slots (winner_at winners n))) (sym e) both.0)
      (λ e. subst (λ n. NotAfter (slice_get slots (won slots winners i)) (slice_get slots (winner_at winners n))) (sym e) both.1)
      c)

  root_by : (fuel j : ℕ) → j ≤ fuel → 0 < j → j < 2 * length winners → NotAfter (slice_get slots (winner_at winners 1)) (slice_get slots (winner_at winners j))
  root_by zero j f b w = absurd (omega arith)
  root_by (suc fuel) j f b w = ⊎_elim
      (λ e. subst (λ n. NotAfter (slice_get slots (winner_at winners 1)) (slice_get slots (winner_at winners n))) (sym e) (itself (slice_get slots (winner_at winners 1))))
      (λ n. not_after (slice_get slots (winner_at winners 1)) (slice_get slots (winner_at winners (j / 2))) (slice_get slots (winner_at winners j))
      (root_by fuel (j / 2) (omega (arith, f)) (omega arith) (omega arith))
      (beats_child (j / 2) j (omega arith) (omega arith) (halves j)))
      (cases_eq j 1)

  pub root : (k : ℕ) → k < length slots → length slots ≤ length winners → NotAfter (slice_get slots (winner_at winners 1)) (slice_get slots k)
  root k l r =
      let e : winner_at winners (length winners + k) ≡ k = leaf winners (length winners + k) (omega arith) ∙ omega arith in
      subst (λ v. NotAfter (slice_get slots (winner_at winners 1)) (slice_get slots v)) e
      (root_by (length winners + k) (length winners + k) (omega arith) (omega arith) (omega arith))

-- How the slots are kept: by their operators, with a tournament for the first of them.
use Rattle.std.specs.Prelude.{◌≡◌, ℕ, zero, suc, true, false, Bool, cond, Option, Some, None, List}
use Rattle.std.specs.Prelude.{[], ◌∷◌, length, ◌<◌, ◌≤◌, ◌+◌, ◌-◌, ◌*◌, ◌/◌, slice_index_or}
use Rattle.std.specs.List.{AllWithin, HoldsAt, slice_get, slice_set}
use Rattle.std.specs.List.Sorted.{IsStrictlySortedBy}
use Rattle.std.specs.Ordering.{is_lt, nat_cmp, ordering_then}
use Rattle.std.specs.declared.cmp.Ordering.{Ordering}
use Rattle.std.specs.declared.cmp.Ordering.TheVariants.{Less, Equal, Greater}
use Rattle.run_queue.specs.Slots.{slot_cmp}
use Rattle.run_queue.specs.Changes.{put}
use Rattle.run_queue.specs.declared.slots.Slot.{Slot}

-- the lower number of a query first, then the lower number
-- of an operator, then the slot that is leased first
abbrev pub place_cmp : Slot → Slot → Ordering
place_cmp a b = ordering_then (nat_cmp a.query b.query)
    (ordering_then (nat_cmp a.operator b.operator) (slot_cmp a b))

-- the slots in the order in which they are leased
abbrev pub in_order : List Slot → List Slot
in_order [] = []
in_order (s ∷ slots) = put (in_order slots) s

-- WHERE A SLOT IS, and where it belongs
pub record IsFound (slots : List Slot) (s : Slot) (i : ℕ) : Type 0 where
  pub within : i < length slots
  pub equal : HoldsAt (λ t. slot_cmp t s ≡ Equal) slots i

pub record IsMissing (slots : List Slot) (s : Slot) (i : ℕ) : Type 0 where
  pub within : i ≤ length slots
  pub below : AllWithin (λ t. place_cmp t s ≡ Less) slots 0 i
  pub above : AllWithin (λ t. place_cmp t s ≡ Greater) slots i (length slots)

-- it belongs between the neighbours of a place
pub record IsBetween (slots : List Slot) (s : Slot) (i : ℕ) : Type 0 where
  pub below : 0 < i → HoldsAt (λ t. place_cmp t s ≡ Less) slots (i - 1)
  pub above : i + 1 < length slots → HoldsAt (λ t. place_cmp t s ≡ Greater) slots (i + 1)

-- THE TOURNAMENT: node i plays for nodes 2 * i and 2 * i + 1;
-- the nodes after the winners are the places
abbrev pub winner_at : List ℕ → ℕ → ℕ
winner_at winners i = slice_index_or winners i (i - length winners)

-- whether the first of two wins; where there is no slot, the other wins
abbrev pub wins : Option Slot → Option Slot → Bool
wins None b = false
wins (Some a) None = true
wins (Some a) (Some b) = is_lt (slot_cmp a b)

abbrev pub better : List Slot → ℕ → ℕ → ℕ
better slots i j = cond (wins (slice_get slots i) (slice_get slots j)) i j

-- the winner of a match
abbrev pub won : List Slot → List ℕ → ℕ → ℕ
won slots winners i = better slots (winner_at winners (2 * i)) (winner_at winners (2 * i + 1))

-- the winners after a match
abbrev pub with_match : List Slot → List ℕ → ℕ → List ℕ
with_match slots winners i = slice_set winners i (won slots winners i)

pub record IsMatch (slots : List Slot) (winners : List ℕ) (i : ℕ) : Type 0 where
  pub is : winner_at winners i ≡ won slots winners i

pub record IsPlayed (slots : List Slot) (winners : List ℕ) : Type 0 where
  pub each : (i : ℕ) → 0 < i → i < length winners → IsMatch slots winners i

-- the node that a place plays for after some matches
abbrev pub halved : ℕ → ℕ → ℕ
halved zero i = i
halved (suc k) i = halved k (i / 2)

-- a node is on the way from another to the root
pub record IsAbove (i node : ℕ) : Type 0 where
  pub matches : ℕ
  pub is : halved matches node ≡ i

-- each match is played except those on the way from a node to the root
pub record IsPlayedBeside (slots : List Slot) (winners : List ℕ) (node : ℕ) : Type 0 where
  pub each : (i : ℕ) → 0 < i → i < length winners → (IsAbove i node → ⊥)
      → IsMatch slots winners i

-- each match is played from a node on
pub record IsPlayedFrom (slots : List Slot) (winners : List ℕ) (node : ℕ) : Type 0 where
  pub each : (i : ℕ) → 0 < i → i < length winners → node ≤ i → IsMatch slots winners i

-- HOW THE SLOTS ARE KEPT: by their operators, and each match of theirs is played
pub record IsKept (slots : List Slot) (winners : List ℕ) : Type 0 where
  pub ordered : IsStrictlySortedBy place_cmp slots
  pub room : length slots ≤ length winners
  pub played : IsPlayed slots winners

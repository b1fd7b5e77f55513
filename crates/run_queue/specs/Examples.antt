-- The definitions at worked examples.
use Rattle.std.specs.Prelude.{◌≡◌, Some, None, List, [], ◌∷◌, refl}
use Rattle.std.specs.declared.cmp.Ordering.TheVariants.{Equal, Less}
use Rattle.column.specs.declared.batch.Side.TheVariants.{Left, Right}
use Rattle.envelope.specs.Fraction.{fraction}
use Rattle.run_queue.specs.Places.{in_order, place_cmp, winner_at, won}
use Rattle.run_queue.specs.Slots.{first_of, slot, slot_cmp}
use Rattle.run_queue.specs.Changes.{changed, put, without_query}
use Rattle.run_queue.specs.declared.slots.Slot.{Slot}

-- the slope goes before the instant, the instant before the numbers,
-- and what may take nothing is last
steeper_first : slot_cmp (slot (fraction 450000 1) (Some (Left, 9)) 1 2)
    (slot (fraction 100000 1) (Some (Left, 0)) 0 0) ≡ Less
steeper_first = refl

earlier_first : slot_cmp (slot (fraction 1 2) (Some (Left, 3)) 4 4)
    (slot (fraction 2 4) (Some (Left, 5)) 0 0) ≡ Less
earlier_first = refl

lower_number_first : slot_cmp (slot (fraction 1 2) (Some (Left, 3)) 0 1)
    (slot (fraction 1 2) (Some (Left, 3)) 0 2) ≡ Less
lower_number_first = refl

idle_last : slot_cmp (slot (fraction 0 1) (Some (Left, 9)) 1 1) (slot (fraction 9 1) None 0 0)
    ≡ Less
idle_last = refl

-- the side decides nothing
either_side : slot_cmp (slot (fraction 1 2) (Some (Left, 3)) 0 1)
    (slot (fraction 1 2) (Some (Right, 3)) 0 1) ≡ Equal
either_side = refl

-- the default chart of three operators: where all slopes are one,
-- the window with something to take comes first; after its turn the next
abbrev window : Slot
window = slot (fraction 250000 1) None 0 0

abbrev project : Slot
project = slot (fraction 250000 1) None 0 1

waits : first_of (changed window (Some (Left, 0)) (put (put [] project) window))
    ≡ Some (slot (fraction 250000 1) (Some (Left, 0)) 0 0)
waits = refl

nothing_waits : first_of (put (put [] project) window) ≡ None
nothing_waits = refl

dropped : without_query 0 (put (put [] project) (slot (fraction 1 1) None 3 0))
    ≡ slot (fraction 1 1) None 3 0 ∷ []
dropped = refl

-- HOW THEY ARE KEPT: the numbers go before all else
lower_query_before : place_cmp (slot (fraction 0 1) None 1 2)
    (slot (fraction 9 1) (Some (Left, 0)) 2 0) ≡ Less
lower_query_before = refl

-- the steepest that may be taken is first, wherever it is kept
abbrev three : List Slot
three = window ∷ slot (fraction 100000 1) (Some (Left, 4)) 0 2
    ∷ slot (fraction 450000 1) (Some (Right, 7)) 1 0 ∷ []

steepest_first : first_of (in_order three) ≡ Some (slot (fraction 450000 1) (Some (Right, 7)) 1 0)
steepest_first = refl

-- four leaves come after four nodes: place 2 wins against the place that is
-- not there, and then against the winner of places 0 and 1
last_wins : winner_at (0 ∷ 2 ∷ 1 ∷ 2 ∷ []) 1 ≡ won three (0 ∷ 2 ∷ 1 ∷ 2 ∷ []) 1
last_wins = refl

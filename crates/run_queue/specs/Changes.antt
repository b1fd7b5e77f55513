-- The slots of operators as calls change them, and when one is the steepest.
use Rattle.std.specs.Prelude.{◌≡◌, ℕ, true, false, not, ◌==◌, Bool, cond, Option, Some, None, List}
use Rattle.std.specs.Prelude.{filter}
use Rattle.std.specs.List.{AllByRecursion, list_any}
use Rattle.std.specs.Ordering.{nat_cmp, is_eq, ordering_then}
use Rattle.std.specs.BTreeSet.{insert_key}
use Rattle.std.specs.declared.cmp.Ordering.{Ordering}
use Rattle.std.specs.declared.cmp.Ordering.TheVariants.{Equal}
use Rattle.column.specs.declared.batch.Side.{Side}
use Rattle.envelope.specs.Fraction.{NoGreater}
use Rattle.run_queue.specs.declared.slots.Slot.{Slot}
use Rattle.run_queue.specs.Slots.{slot, slot_cmp}

-- the order of slots of one slope
abbrev pub later_cmp : Slot → Slot → Ordering
later_cmp a b = ordering_then (nat_cmp a.instant b.instant)
    (ordering_then (nat_cmp a.query b.query) (nat_cmp a.operator b.operator))

-- the operator's slot with what it may take next
abbrev pub with_next : Slot → Option (Side × ℕ) → Slot
with_next s next = slot s.slope.0 next s.query s.operator

-- there is something to take next, and it is of the slot's instant
abbrev pub goes_on : Slot → Option (Side × ℕ) → Bool
goes_on s None = false
goes_on s (Some next) = next.1 == s.instant

-- with a slot at its place, unless it is there
abbrev pub put : List Slot → Slot → List Slot
put slots s = insert_key slot_cmp slots s

-- the slot is there, and the others
abbrev pub has : Slot → List Slot → Bool
has s slots = list_any (λ t. is_eq (slot_cmp t s)) slots

abbrev pub without : Slot → List Slot → List Slot
without s slots = filter (λ t. not (is_eq (slot_cmp t s))) slots

-- with something else to take for the slot's operator, or nothing, where the slot is there
abbrev pub changed : Slot → Option (Side × ℕ) → List Slot → List Slot
changed s next slots = cond (has s slots) (put (without s slots) (with_next s next)) slots

-- where one stands at the slot's place, it is that slot
abbrev pub Stands : Slot → List Slot → Type 0
Stands s slots = AllByRecursion (λ t. slot_cmp t s ≡ Equal → t ≡ s) slots

-- without the slots of a query
abbrev pub without_query : ℕ → List Slot → List Slot
without_query query slots = filter (λ s. not (s.query == query)) slots

-- no slot with something to take has a greater slope
abbrev pub IsSteepest : List Slot → Slot → Type 0
IsSteepest slots s =
    AllByRecursion (λ t. t.is_idle ≡ false → NoGreater t.slope.0 s.slope.0) slots

-- none has anything to take
abbrev pub AreIdle : List Slot → Type 0
AreIdle slots = AllByRecursion (λ s. s.is_idle ≡ true) slots

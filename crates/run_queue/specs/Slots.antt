-- TO BELIEVE: the theorem rests on these definitions, and no proof can check them.
-- The slots of operators, and the order in which they are leased.
use Rattle.std.specs.Prelude.{ℕ, cond, Option, Some, None, unwrap_or, is_none, List, [], ◌∷◌}
use Rattle.std.specs.Ordering.{bool_cmp, nat_cmp, ordering_then}
use Rattle.std.specs.declared.cmp.Ordering.{Ordering}
use Rattle.column.specs.declared.batch.Side.{Side}
use Rattle.column.specs.declared.batch.Side.TheVariants.{Left}
use Rattle.envelope.specs.Fraction.{Fraction, fraction_cmp}
use Rattle.run_queue.specs.declared.slots.Slot.{Slot}

-- an operator's slot, with the side and the instant of what
-- it may take next, if it may take anything
abbrev pub slot : Fraction → Option (Side × ℕ) → ℕ → ℕ → Slot
slot slope next query operator = record {
  is_idle = is_none next;
  slope = record { 0 = slope };
  instant = (unwrap_or next (Left, 0)).1;
  query = query;
  operator = operator;
  side = (unwrap_or next (Left, 0)).0;
}

-- those with something to take first, the greater slope first, then the earlier instant, then the
-- lower number of a query, then the lower number of an operator; the side decides nothing
abbrev pub slot_cmp : Slot → Slot → Ordering
slot_cmp a b = ordering_then (bool_cmp a.is_idle b.is_idle)
    (ordering_then (fraction_cmp b.slope.0 a.slope.0)
    (ordering_then (nat_cmp a.instant b.instant)
    (ordering_then (nat_cmp a.query b.query) (nat_cmp a.operator b.operator))))

-- the first with something to take
abbrev pub first_of : List Slot → Option Slot
first_of [] = None
first_of (s ∷ slots) = cond s.is_idle None (Some s)

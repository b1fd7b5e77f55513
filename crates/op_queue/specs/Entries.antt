-- TO BELIEVE: the theorem rests on these definitions, and no proof can check them.
-- What a queue holds, one by one: a signed row of an instant, or the tick that closes an instant.
use Rattle.std.specs.Prelude.{ℕ, Bool, Option, None, Some, List, ◌∷◌, []}
use Rattle.values.specs.Row.{Row}
use Rattle.op_queue.specs.declared.queue.Front.{Front}
use Rattle.op_queue.specs.declared.queue.Front.TheVariants as front

-- a signed row is a pair: true where the row enters, false where it leaves
pub data Entry (X : Type 0) : Type 0 where
  RowAt : ℕ → Bool × X → Entry X
  TickAt : ℕ → Entry X

-- whether a row or a tick comes first, and of which instant
abbrev pub front_of : List (Entry Row) → Option Front
front_of [] = None
front_of (RowAt t s ∷ es) = Some (front.Row t)
front_of (TickAt t ∷ es) = Some (front.Tick t)

-- The turns of a root, on plain states.
use Rattle.std.specs.Prelude.{ℕ, ◌≡◌, ◌+◌, ◌<◌, ◌^◌, Bool, Option, Some, List, [], map, length}
use Rattle.values.specs.Row.{Row}
use Rattle.values.specs.declared.resolved.StreamOperator.{StreamOperator}
use Rattle.values.specs.declared.resolved.StreamOperator.TheVariants.{Istream, Dstream, Rstream}
use Rattle.op_queue.specs.declared.item.Item.{Item}
use Rattle.op_queue.specs.declared.item.Item.TheVariants.{Rows, Tick}
use Rattle.row_bags.specs.Deltas.{PlainDelta, delta_of, deltas_after}
use Rattle.row_bags.specs.Lists.{renewed}

-- what entered and left since the last tick, and the instant of that tick, if one was taken; of
-- Rstream also the relation of the last tick, in order, which stays empty where it is not asked for
pub record State : Type 0 where
  pub operator : StreamOperator
  pub delta : PlainDelta
  pub whole : List Row
  pub last : Option ℕ

-- what a turn needs of the state: what is asked, what entered and left, and of Rstream the relation
-- of the last tick
pub record RootExcerpt : Type 0 where
  pub operator : StreamOperator
  pub delta : PlainDelta
  pub whole : List Row

-- the rows that answer at a tick, in order
abbrev pub shown : StreamOperator → PlainDelta → List Row → List Row
shown Istream delta whole = delta.entered
shown Dstream delta whole = delta.left
shown Rstream delta whole = renewed whole delta

-- the excerpt
abbrev pub near : State → Item → RootExcerpt
near s (Rows t b) = record { operator = s.operator; delta = delta_of [] []; whole = [] }
near s (Tick t) = record { operator = s.operator; delta = s.delta; whole = s.whole }

-- the answers
abbrev pub out : Item → RootExcerpt → List (ℕ × Row)
out (Rows t b) n = []
out (Tick t) n = map (λ r. (t, r)) (shown n.operator n.delta n.whole)

-- the state after signed rows
abbrev pub taken : State → List (Bool × Row) → State
taken s b = record {
  operator = s.operator;
  delta = deltas_after s.delta b;
  whole = s.whole;
  last = s.last;
}

-- the relation that is kept from one tick to the next
abbrev pub kept : StreamOperator → State → List Row
kept Istream s = s.whole
kept Dstream s = s.whole
kept Rstream s = renewed s.whole s.delta

-- the state after a tick, from which on nothing has entered or left
abbrev pub ticked : State → ℕ → State
ticked s t = record {
  operator = s.operator;
  delta = record { entered = []; left = [] };
  whole = kept s.operator s;
  last = Some t;
}

-- STILL: nothing has entered or left since the last tick, a tick answers
-- with nothing, and it keeps the relation that was kept
pub record IsStill (s : State) : Type 0 where
  pub still : s.delta ≡ record { entered = []; left = [] }
  pub silent : shown s.operator s.delta s.whole ≡ []
  pub keeps : kept s.operator s ≡ s.whole

-- the state after an item
abbrev pub next : State → Item → State
next s (Rows t b) = taken s b
next s (Tick t) = ticked s t

-- counts stay below 2^62 in the middle of the rows too
abbrev pub HasRoomFor : State → List (Bool × Row) → Type 0
HasRoomFor s b = length s.delta.entered + length s.delta.left + length b < 2 ^ 62

abbrev pub HasRoom : State → Item → Type 0
HasRoom s (Rows t b) = HasRoomFor s b
HasRoom s (Tick t) = Unit {0}

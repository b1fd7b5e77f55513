-- TO BELIEVE: the theorem rests on these definitions, and no proof can check them.
-- The steps of the machine.
use Rattle.std.specs.Prelude.{ℕ, ℤ, ◌≡◌, ◌≤◌, ⊤, Some, None, List, length, take, drop, nat_abs}
use Rattle.values.specs.Row.{Row}
use Rattle.reference.specs.Machine.{Machine, Registered, query_at, closed_answers}
use Rattle.reference.specs.Commands.{Command, Declare, Register, Append, Heartbeat, Take, Drop}
use Rattle.reference.specs.Commands.{first_fault, after}
use Rattle.reference.specs.World.{handed}
use Rattle.reference.specs.Replies.{Reply, Number, Done, Rows, count_in}

-- the next answers of a query behind those that were taken, at most so many
pub record AreNext (m : Machine) (n : ℕ) (limit : ℤ) (rows : List (ℤ × Row)) : Type 0 where
  pub query : Registered
  pub registered : query_at m n ≡ Some query
  pub few : length rows ≤ nat_abs limit
  pub next : rows ≡ handed (take (length rows) (drop query.taken (closed_answers m query)))

-- the reply is one that the machine gives
abbrev pub Gives : Machine → Command → Reply → Type 0
Gives m (Declare name columns start) (Number k) = k ≡ length m.streams
Gives m (Register name text chart) (Number k) = k ≡ length m.queries
Gives m (Append n rows) Done = ⊤
Gives m (Heartbeat n at) Done = ⊤
Gives m (Take n limit) (Rows rows) = AreNext m n limit rows
Gives m (Drop n) Done = ⊤
Gives m c r = ⊥

-- ONE STEP: the command is accepted with the reply, and leads to the new machine
pub record IsStep (old : Machine) (c : Command) (r : Reply) (new : Machine) : Type 0 where
  pub accepted : first_fault old c ≡ None
  pub gives : Gives old c r
  pub after : new ≡ after old c (count_in r)

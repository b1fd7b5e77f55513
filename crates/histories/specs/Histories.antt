-- TO BELIEVE: the theorem rests on these definitions, and no proof can check them.
-- Histories: accepted commands, each of a seat and with its reply.
use Rattle.std.specs.Prelude.{◌≡◌, ◌==◌, ℕ, ◌+◌, List, [], ◌∷◌, if◌then◌else◌}
use Rattle.reference.specs.Machine.{Machine}
use Rattle.reference.specs.Commands.{Command}
use Rattle.reference.specs.Replies.{Reply}
use Rattle.reference.specs.Steps.{IsStep}

-- an accepted command, with the number of its seat, and its reply
pub record Entry : Type 0 where
  pub seat : ℕ
  pub command : Command
  pub reply : Reply

-- A REPLAY: the machine accepts the entries in turn, each with
-- its reply, and so goes from the first state to the last
abbrev pub Replays : Machine → List Entry → Machine → Type 0
Replays first [] last = last ≡ first
Replays first (e ∷ es) last = (next : Machine)
    × (IsStep first e.command e.reply next × Replays next es last)

-- A LEGAL HISTORY replays from the machine that it begins
-- with: the one that was told nothing, or an opening
abbrev pub IsLegal : Machine → List Entry → Type 0
IsLegal first es = (last : Machine) × Replays first es last

-- what a receipt tells: the number of an entry, which is how many stand before it, and the entry
pub record Told : Type 0 where
  pub number : ℕ
  pub entry : Entry

-- THE RECEIPTS OF A SEAT: those of its entries, where the first entry of the list has the number n
abbrev pub own : ℕ → ℕ → List Entry → List Told
own seat n [] = []
own seat n (e ∷ es) = if e.seat
    == seat then (record { number = n; entry = e } ∷ own seat (n + 1) es) else own seat (n + 1) es

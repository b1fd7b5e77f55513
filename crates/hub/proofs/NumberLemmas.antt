-- The number that an accepted declaration or registration is answered by.
use Rattle.std.proofs.Common.{◌≡◌, ◌∙◌, ℕ, ℤ, List, Option, length, ap, sym}
use Rattle.reference.specs.Commands.{Declare, Register}
use Rattle.reference.specs.Machine.{Machine}
use Rattle.reference.specs.Replies.{Reply, Number, Done, Rows}
use Rattle.reference.specs.Steps.{Gives}
use Rattle.histories.specs.Histories.{Told}
use Rattle.hub.specs.Seats.{PlainSeat}
use Rattle.hub.specs.Steps.{Accepted, PlainLocked, engine_at}

declares : (m : Machine) (name : List ℕ) (columns : List (List ℕ)) (start : ℤ) (r : Reply) (k : ℕ) → Gives m (Declare name columns start) r → k ≡ length m.streams → r ≡ Number k
declares m name columns start (Number n) k gives is = ap Number (gives ∙ sym is)
declares m name columns start Done k gives is = absurd gives
declares m name columns start (Rows rows) k gives is = absurd gives

registers : (m : Machine) (name text : List ℕ) (chart : Option (List (ℤ × ℤ))) (r : Reply) (k : ℕ) → Gives m (Register name text chart) r → k ≡ length m.queries → r ≡ Number k
registers m name text chart (Number n) k gives is = ap Number (gives ∙ sym is)
registers m name text chart Done k gives is = absurd gives
registers m name text chart (Rows rows) k gives is = absurd gives

module _ (old new : PlainLocked) (seat seat' : PlainSeat) (r : Told) (k : ℕ) where
  pub declared_number : (name : List ℕ) (columns : List (List ℕ)) (start : ℤ) → Accepted old seat (Declare name columns start) r new seat' → k ≡ length (engine_at old).machine.streams → r.entry.reply ≡ Number k
  declared_number name columns start done is = declares (engine_at old).machine name columns start r.entry.reply k done.engine.step.gives is

  pub registered_number : (name text : List ℕ) (chart : Option (List (ℤ × ℤ))) → Accepted old seat (Register name text chart) r new seat' → k ≡ length (engine_at old).machine.queries → r.entry.reply ≡ Number k
  registered_number name text chart done is = registers (engine_at old).machine name text chart r.entry.reply k done.engine.step.gives is

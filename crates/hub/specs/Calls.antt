-- TO BELIEVE: the theorem rests on these definitions, and no proof can check them.
-- What an accepted command makes of an engine, and why one is refused.
use Rattle.std.specs.Prelude.{◌≡◌, ⊤, Option, None, Some}
use Rattle.reference.specs.Commands.{Command, Take, first_fault}
use Rattle.reference.specs.Replies.{Reply}
use Rattle.reference.specs.Steps.{IsStep}
use Rattle.reference.specs.declared.fault.Fault.{Fault}
use Rattle.reference.specs.declared.fault.Fault.TheVariants as fault
use Rattle.laws_engine.specs.Engines.{IsExhausted, PlainEngine, remains_at}
use Rattle.hub.specs.EngineCalls.{IsCall}

-- ACCEPTED with this reply: a step of the machine, by one call on the engine
pub record Answered (old : PlainEngine) (c : Command) (r : Reply) (new : PlainEngine) : Type 0 where
  pub step : IsStep old.machine c r new.machine
  pub call : IsCall old c r new

-- a broken query has no answer that waits
abbrev pub IsSpent : PlainEngine → Command → Type 0
IsSpent e (Take n limit) = (first_fault e.machine (Take n limit) ≡ None)
    × IsExhausted (remains_at e n)
IsSpent e c = ⊥

-- the first test that fails, or out of memory, which may come in
-- place of any, or that nothing waits; but none of a hub's own faults
abbrev pub IsFirst : Option Fault → Type 0 → Fault → Type 0
IsFirst first spent fault.OutOfMemory = ⊤
IsFirst first spent fault.HistoryFull = ⊥
IsFirst first spent (fault.Foreign n) = ⊥
IsFirst first spent fault.Broken = spent
IsFirst first spent f = first ≡ Some f

-- REFUSED for this fault
pub record Refused (e : PlainEngine) (c : Command) (f : Fault) : Type 0 where
  pub line : IsFirst (first_fault e.machine c) (IsSpent e c) f

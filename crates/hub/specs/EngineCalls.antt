-- What one call makes of an engine as a plain value.
use Rattle.std.specs.Prelude.{◌≡◌, Ok, slice_get}
use Rattle.reference.specs.Commands.{Command, Declare, Register, Append, Heartbeat, Take, Drop}
use Rattle.reference.specs.Replies.{Reply, Rows}
use Rattle.stream_store.specs.Gains.{QueuesGain}
use Rattle.laws_engine.specs.Calls.{appended, heartbeat_taken, declared, dropped}
use Rattle.laws_engine.specs.Engines.{PlainEngine}
use Rattle.leases.specs.Queues.{LeavesQueues, LengthensQueues}
use Rattle.leases.specs.Registering.{Registers}
use Rattle.leases.specs.Takes.{Takes}

-- FOUR REPLIES are one and the same
abbrev pub AreOne : Reply × Reply × Reply × Reply → Type 0
AreOne r = (r.1 ≡ r.0) × (r.2 ≡ r.0) × (r.3 ≡ r.0)

-- ONE CALL changes the engine for a command, which answers this
abbrev pub IsCall : PlainEngine → Command → Reply → PlainEngine → Type 0
IsCall old (Declare name columns start) r new = new ≡ declared old name columns start
IsCall old (Register name text chart) r new = Registers old name text chart new
IsCall old (Append s rows) r new = (new ≡ appended old s rows) × LeavesQueues old new
IsCall old (Heartbeat s at) r new =
    (new ≡ heartbeat_taken old s at) × QueuesGain (slice_get old.machine.streams s) at
    × LengthensQueues s at old new
IsCall old (Take n limit) (Rows rows) new = Takes (λ handed. handed) old n limit (Ok rows) new
IsCall old (Take n limit) r new = ⊥
IsCall old (Drop n) r new = new ≡ dropped old n

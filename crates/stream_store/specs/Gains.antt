-- What a heartbeat closes of a stream, and what the queues over it gain.
use Rattle.std.specs.Prelude.{ℕ, suc, nat_abs, List, [], ℤ, Option, Some, None, Result, Ok, Err}
use Rattle.std.specs.Prelude.{slice_get, ⊤}
use Rattle.std.specs.Option.{option_map_or}
use Rattle.op_queue.specs.Cursors.{GainsClosed}
use Rattle.reference.specs.declared.fault.Fault.{Fault}
use Rattle.reference.specs.Places.{machine_of}
use Rattle.values.specs.Window.{Element}
use Rattle.reference.specs.Machine.{Stream}
use Rattle.reference.specs.Commands.{first_fault, closed_to, Heartbeat}
use Rattle.stream_store.specs.Closing.{by_instant, closed_of}

-- what a heartbeat at this instant closes
abbrev pub closing_of : ℤ → Stream → List Element
closing_of at s = by_instant s.first_open (closed_to at s).first_open s.elements

-- the same of the stream of a number
abbrev pub closing_at : List Stream → ℕ → ℤ → List Element
closing_at streams n at = option_map_or (closing_of at) (slice_get streams n) []

abbrev pub unless_faulty : Option Fault → List Element → Result (List Element) Fault
unless_faulty None es = Ok es
unless_faulty (Some fault) es = Err fault

-- what a heartbeat closes, or the fault of its first test that fails
unfoldable pub closing_in : List Stream → ℕ → ℤ → Result (List Element) Fault
closing_in streams n at = unless_faulty (first_fault (machine_of streams) (Heartbeat n at))
    (closing_at streams n at)

-- by the heartbeat the queue of every cursor over the stream
-- gains the rows and the ticks of the instants that it closes
abbrev pub QueuesGain : Option Stream → ℤ → Type 0
QueuesGain None at = ⊤
QueuesGain (Some s) at = GainsClosed (closed_of s) (closing_of at s) (suc (nat_abs at))
    (closed_of (closed_to at s))

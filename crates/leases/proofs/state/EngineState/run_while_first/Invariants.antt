-- Up to here turns have run, and with the slots told the slot of the next turn stands first.
use Rattle.std.proofs.Common.{◌-◌, ◌<◌}
use Rattle.leases.proofs.TurnsLemmas.{AreRunning}
use Rattle.leases.proofs.state.EngineState.run_while_first.Given as goal

abbrev pub invariant-turns : goal.invariant-turns
invariant-turns l = record {
  running : AreRunning l.fn.self l.self l.fn.slot l.fn.above l.fn.rows l.turn;
  left : l.self.next < l.fn.until;
}

-- each takes a number
abbrev pub decreases-turns : goal.decreases-turns
decreases-turns l = l.fn.until - l.self.next

use Rattle.std.proofs.Common.{◌<◌, length}
use Rattle.run_queue.specs.Places.{IsPlayedBeside}
use Rattle.run_queue.proofs.tournament.play_again.Given as goal

abbrev pub invariant-loop-node : goal.invariant-loop-node
invariant-loop-node l = record { within : l.node < length l.winners; beside : IsPlayedBeside l.slots l.winners l.node }

abbrev pub decreases-loop-node : goal.decreases-loop-node
decreases-loop-node l = l.node

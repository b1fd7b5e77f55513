use Rattle.std.proofs.Common.{◌≡◌, take}
use Rattle.leases.specs.Forgets.{earlier_in}
use Rattle.leases.proofs.state.opening.waiting_of.Given as goal

abbrev pub invariant-loop-it : goal.invariant-loop-it
invariant-loop-it l = l.waiting.items ≡ earlier_in (take l.it-index l.remains)

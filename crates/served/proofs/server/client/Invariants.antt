use Rattle.std.specs.Prelude.{◌≡◌}
use Rattle.served.proofs.server.client.Given as goal

abbrev pub invariant-loop : goal.invariant-loop
invariant-loop g l = (goal.iterator-loop g).can_next l.iterator' × (goal.iterator-loop g).is_finite l.iterator' × (l.seat.number ≡ l.fn.seat.number)

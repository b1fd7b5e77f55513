use Rattle.tests_store.proofs.OrderLemmas.{AreRising}
use Rattle.tests_store.proofs.needed.are_in_order.Given as goal

abbrev pub invariant-loop-row : goal.invariant-loop-row
invariant-loop-row l = AreRising l.rows.instants.now l.rows.numbers.now l.row

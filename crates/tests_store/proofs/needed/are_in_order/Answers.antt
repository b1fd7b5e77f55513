use Rattle.tests_store.proofs.OrderLemmas.{rising_first}
use Rattle.tests_store.proofs.needed.are_in_order.Goals as goal

pub loop-row-init : goal.loop-row-init
loop-row-init c = rising_first c.args.rows.now.instants.now c.args.rows.now.numbers.now

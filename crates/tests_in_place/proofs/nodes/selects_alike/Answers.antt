use Rattle.tests_in_place.proofs.TurnLemmas.{selected_forward}
use Rattle.tests_in_place.proofs.nodes.selects_alike.Goals as goal

pub run_select-requires-clause-forward : goal.run_select-requires-clause-forward
run_select-requires-clause-forward c = selected_forward c.new-queue.result.entries c.args.steps.now c.args.item c.new-queue.ensures.entries

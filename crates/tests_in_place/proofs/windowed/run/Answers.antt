use Rattle.tests_in_place.proofs.TurnLemmas.{window_forward}
use Rattle.tests_in_place.proofs.windowed.run.Goals as goal

pub run-requires-clause-forward : goal.run-requires-clause-forward
run-requires-clause-forward c = window_forward c.new-queue.result.entries c.args.window.now c.args.item c.new-queue.ensures.entries

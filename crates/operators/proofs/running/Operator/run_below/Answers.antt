use Rattle.operators.proofs.InPlaceLemmas.{come_first, stopped_below}
use Rattle.operators.proofs.running.Operator.run_below.Goals as goal

pub run_first-requires-clause-come : goal.run_first-requires-clause-come
run_first-requires-clause-come c = come_first c.args.self.now c.args.log.now c.args.side c.args.rows c.requires.may c.args.to.now c.args.to_side c.requires.puts

pub returns-clause-err : goal.returns-clause-err
returns-clause-err c =
    stopped_below c.run_first.result c.args.self.now c.args.log.now c.args.side c.args.rows c.args.to.now c.args.to_side c.run_first.new.self c.run_first.new.to c.requires.may c.requires.puts c.run_first.ensures.kept c.run_first.ensures.same c.run_first.ensures.err

use Rattle.std.proofs.Common.{rules}
use Rattle.op_queue.specs.declared.item.Item.TheVariants.{Tick}
use Rattle.to_stream.proofs.StepLemmas.{law_of}
use Rattle.to_stream.proofs.ToStream.run_tick.Goals as goal

pub returns-clause-law : goal.returns-clause-law
returns-clause-law c = law_of c.args.self.now c.end.new.self (Tick c.args.at) (search rules)

use Rattle.std.proofs.Common.{sym, subst}
use Rattle.op_queue.specs.declared.item.Item.{Item}
use Rattle.to_stream.specs.Law.{StepLaw}
use Rattle.to_stream.proofs.ToStream.run.Goals as goal

pub returns-in-Ok-clause-law : goal.returns-in-Ok-clause-law
returns-in-Ok-clause-law c = subst (λ (i : Item). StepLaw c.args.self.now i c.run_rows.new.self) (sym c.in-Rows.is) (c.in-Ok.ensures.law c.in-Rows.field-0)

use Rattle.physical_plans.proofs.MadeLemmas.{kind_makeable}
use Rattle.physical_plans.proofs.making.made.Goals as goal

pub kind_made-requires : goal.kind_made-requires
kind_made-requires c = kind_makeable c.args.plan.now.meaning.windows.items c.args.widths.now c.args.node.now c.requires

use Rattle.std.proofs.Common.{refl}
use Rattle.windows.proofs.RunLemmas.{instants_in-longer}
use Rattle.windows.proofs.runs.lengthen.Goals as goal

pub returns-clause-instants : goal.returns-clause-instants
returns-clause-instants c =
    instants_in-longer c.take_last-before.new.runs.items c.args.runs.now.items c.push_back_reserved.new.self.items _ c.take_last-before.result c.args.count c.args.at c.take_last-before.ensures.instants c.push_back_reserved.ensures.items refl refl

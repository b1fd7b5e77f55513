use Rattle.std.proofs.Common.{arith, drop, refl}
use Rattle.windows.specs.Held.{instants_in}
use Rattle.windows.proofs.RunLemmas.{IsLeft-part, IsLeft-whole}
use Rattle.windows.proofs.runs.leave.Goals as goal

pub loop-left-preserved-then-left-run : goal.loop-left-preserved-then-left-run
loop-left-preserved-then-left-run c =
    IsLeft-part c.loop-left.left c.loop-left.runs.items c.in-Some.run'.now _ (drop c.args.count (instants_in c.args.runs.now.items)) (search arith) c.in-Some.ensures.lookup (omega arith) refl refl c.loop-left.invariant

pub loop-left-preserved : goal.loop-left-preserved
loop-left-preserved c =
    IsLeft-whole c.loop-left.left c.loop-left.runs.items c.pop_front.new.self.items c.in-Some.run'.now (drop c.args.count (instants_in c.args.runs.now.items)) (search arith) c.in-Some.ensures.lookup (omega arith) c.pop_front.ensures.rest c.loop-left.invariant

use Rattle.std.proofs.Common.{arith, refl, ◌-◌}
use Rattle.std.specs.VecDeque.{deque_len}
use Rattle.windows.specs.Held.{instants_in}
use Rattle.windows.proofs.RunLemmas.{IsShort-part, IsShort-whole}
use Rattle.windows.proofs.runs.shorten.Goals as goal

pub loop-left-preserved-then-left-run : goal.loop-left-preserved-then-left-run
loop-left-preserved-then-left-run c =
    IsShort-part c.loop-left.left c.args.count (deque_len c.loop-left.runs - 1) c.loop-left.runs.items c.pop_back.new.self.items c.push_back_reserved.new.self.items c.in-Some.run' _ (instants_in c.args.runs.now.items) c.in-Some.ensures.items c.pop_back.ensures.rest (omega arith) refl refl c.push_back_reserved.ensures.items c.loop-left.invariant

pub loop-left-preserved : goal.loop-left-preserved
loop-left-preserved c =
    IsShort-whole c.loop-left.left c.args.count (deque_len c.loop-left.runs - 1) c.loop-left.runs.items c.pop_back.new.self.items c.in-Some.run' (instants_in c.args.runs.now.items) c.in-Some.ensures.items c.pop_back.ensures.rest (omega arith) c.loop-left.invariant

use Rattle.std.proofs.Common.{arith}
use Rattle.windows.proofs.RunLemmas.{IsBelow-more, IsBelow-stop, IsBelow-end}
use Rattle.windows.proofs.runs.count_below.Goals as goal

pub returns-then-run-first : goal.returns-then-run-first
returns-then-run-first c =
    IsBelow-stop c.args.first c.args.runs.now.items c.loop-place.place c.loop-place.count c.index-run.result.now c.requires.counted (omega arith) c.index-run.ensures (omega arith) c.loop-place.invariant

pub loop-place-preserved : goal.loop-place-preserved
loop-place-preserved c =
    IsBelow-more c.args.first c.args.runs.now.items c.loop-place.place c.loop-place.count c.index-run.result.now (omega arith) c.index-run.ensures (omega arith) c.loop-place.invariant

pub returns : goal.returns
returns c = IsBelow-end c.args.first c.args.runs.now.items c.loop-place.place c.loop-place.count (omega arith) c.loop-place.invariant

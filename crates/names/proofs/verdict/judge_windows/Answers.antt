use Rattle.std.proofs.Common.{◌∙◌, ◌<◌, length, ap, arith}
use Rattle.names.specs.Views.{both_verdicts}
use Rattle.names.proofs.Verdicts.{windows_step}
use Rattle.names.proofs.verdict.judge_windows.Goals as goal

pub loop-i-preserved : goal.loop-i-preserved
loop-i-preserved c =
    let lt : c.loop-i.i < length c.args.tables.now = omega (arith, c.requires, c.loop-i-test.true) in
    windows_step c.loop-i.verdict c.and-verdict.result c.loop-i.i c.args.tables.now c.args.sources.now c.index-tables-i.result c.index-sources-i.result
    lt c.index-tables-i.is c.loop-i-test.true c.index-sources-i.is
    (c.and-verdict.ensures ∙ ap (both_verdicts c.loop-i.verdict) c.judge_window.ensures) ∙ c.loop-i.invariant

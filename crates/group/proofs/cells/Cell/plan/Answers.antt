use Rattle.std.proofs.Common.{◌∙◌, rules}
use Rattle.group.specs.Cells.{held}
use Rattle.group.specs.Runs.{ShowsKey}
use Rattle.group.proofs.QuietLemmas.{quiet_plan, quiet_rows}
use Rattle.group.proofs.TallyLemmas.{row_within}
use Rattle.group.proofs.cells.Cell.plan.Goals as goal

pub plan_row-requires : goal.plan_row-requires
plan_row-requires c = row_within _ _ _ _ _ _ (c.deref-2.ensures.value ∙ c.in_ok-write_row.ensures) c.items.ensures.few

pub returns-then-quiet-clause-plan : goal.returns-then-quiet-clause-plan
returns-then-quiet-clause-plan c =
    let h : ShowsKey c.args.group.now (held c.args.key.now) c.args.self.now = search rules in
    quiet_plan c.args.group.now (held c.args.key.now) c.args.self.now h

pub returns-then-quiet-clause-rows : goal.returns-then-quiet-clause-rows
returns-then-quiet-clause-rows c =
    let h : ShowsKey c.args.group.now (held c.args.key.now) c.args.self.now = search rules in
    quiet_rows c.args.group.now (held c.args.key.now) c.args.self.now c.args.rows.now h

use Rattle.std.proofs.Common.{◌∙◌, arith, subst}
use Rattle.operators.specs.Ready.{entries_in}
use Rattle.operators.specs.Passing.{MayPass}
use Rattle.operators.proofs.QuietLemmas.{none_of, none_waits}
use Rattle.operators.proofs.running.Operator.quiet_until.Goals as goal

pub returns : goal.returns
returns c b above le =
    subst (MayPass c.args.start b c.args.log.now) c.self.view_is (record {
      quiet = c.quiet_until.ensures b above (omega (arith, le, c.min.ensures));
      left = c.clear_until-left.ensures b above (omega (arith, le, c.min.ensures));
      right = none_waits (entries_in c.self.inside.right c.args.log.now) (none_of c.front_instant.result c.is_some.result c.is_some.ensures c.if-is_some.false ∙ c.front_instant.ensures);
    })

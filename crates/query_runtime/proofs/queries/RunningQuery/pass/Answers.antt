use Rattle.std.proofs.Common.{subst, sym}
use Rattle.query_runtime.specs.Passing.{AreQuiet}
use Rattle.query_runtime.proofs.queries.RunningQuery.pass.Goals as goal

pub pass_all-requires : goal.pass_all-requires
pass_all-requires c = subst (AreQuiet c.args.until) (sym c.self.view_is) c.requires

-- It goes on with fewer rows where memory runs out.
use Rattle.std.proofs.Common.{◌≡◌, arith, sym}
use Rattle.leases.proofs.ByQueryLemmas.{refused_by_query}
use Rattle.leases.proofs.DrainLemmas.{limit_is, never_full, never_out, only_looked, refused_drain}
use Rattle.leases.specs.Shown.{engine_in}
use Rattle.leases.proofs.state.EngineState.drain_some_by_query.Goals as goal

pub returns-in-Some-clause-runs : goal.returns-in-Some-clause-runs
returns-in-Some-clause-runs g c = refused_by_query (engine_in c.args.self.now) c.args.rows c.in-Some.fault c.in-Some.ensures.first

pub returns-in-Some-clause-others : goal.returns-in-Some-clause-others
returns-in-Some-clause-others g c = (refused_drain (engine_in c.args.self.now) c.args.rows c.in-Some.fault c.in-Some.ensures.first).1

pub returns-in-Some-clause-fewer : goal.returns-in-Some-clause-fewer
returns-in-Some-clause-fewer g c = λ full. absurd (never_full c.args.rows c.in-Some.fault c.in-Some.ensures.first full)

pub returns-in-Some-clause-below : goal.returns-in-Some-clause-below
returns-in-Some-clause-below g c = λ out. absurd (never_out c.args.rows c.in-Some.fault c.in-Some.ensures.first out)

pub returns-in-Some-clause-looks : goal.returns-in-Some-clause-looks
returns-in-Some-clause-looks g c = λ none. limit_is c.args.rows c.in-Some.fault c.in-Some.ensures.first

pub returns-clause-looks : goal.returns-clause-looks
returns-clause-looks g c = λ none. only_looked c.run_some_by_halves.result c.args.self.now.next c.saturating_add-until.result c.run_some_by_halves.ensures.looks (omega (arith, none, c.saturating_add-until.ensures))

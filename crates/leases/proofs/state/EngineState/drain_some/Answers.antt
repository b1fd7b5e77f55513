use Rattle.std.proofs.Common.{arith}
use Rattle.leases.proofs.DrainLemmas.{limit_is, never_full, never_out, only_looked, refused_drain}
use Rattle.leases.specs.Shown.{engine_in}
use Rattle.leases.proofs.state.EngineState.drain_some.Goals as goal

pub returns-in-Some-clause-runs : goal.returns-in-Some-clause-runs
returns-in-Some-clause-runs c = (refused_drain (engine_in c.args.self.now) c.args.rows c.in-Some.fault c.in-Some.ensures.first).0

pub returns-in-Some-clause-others : goal.returns-in-Some-clause-others
returns-in-Some-clause-others c = (refused_drain (engine_in c.args.self.now) c.args.rows c.in-Some.fault c.in-Some.ensures.first).1

pub returns-in-Some-clause-fewer : goal.returns-in-Some-clause-fewer
returns-in-Some-clause-fewer c = λ full. absurd (never_full c.args.rows c.in-Some.fault c.in-Some.ensures.first full)

pub returns-in-Some-clause-looks : goal.returns-in-Some-clause-looks
returns-in-Some-clause-looks c = λ none. limit_is c.args.rows c.in-Some.fault c.in-Some.ensures.first

pub returns-clause-looks : goal.returns-clause-looks
returns-clause-looks c = λ none. only_looked c.run_until.result c.args.self.now.next c.saturating_add-until.result c.run_until.ensures.looks (omega (arith, none, c.saturating_add-until.ensures))

pub returns-in-Some-clause-below : goal.returns-in-Some-clause-below
returns-in-Some-clause-below c = λ out. absurd (never_out c.args.rows c.in-Some.fault c.in-Some.ensures.first out)

pub returns-clause-below : goal.returns-clause-below
returns-clause-below c = λ out. let h = c.run_until.ensures.below out in (h.0, (h.1.0, (h.1.1.0, omega (arith, h.1.1.1, c.saturating_add-until.ensures))))

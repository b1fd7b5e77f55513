-- What is found at a place is what is left of the query.
use Rattle.std.proofs.Common.{◌∙◌, sym}
use Rattle.leases.specs.Views.{remains_of}
use Rattle.leases.proofs.LendLemmas.{runs_here}
use Rattle.leases.proofs.ReaderLemmas.{remains_looked}
use Rattle.leases.proofs.state.EngineState.runs.Goals as goal

pub returns-in-Some : goal.returns-in-Some
returns-in-Some c = λ runs.
    let is = runs_here (remains_of c.in-Some.remains.now) (sym c.is_running.ensures ∙ runs) in
    (is.0, remains_looked c.args.self.now.remains.items c.deref.result.now c.args.query c.in-Some.remains.now c.deref.ensures.value c.in-Some.ensures.lookup.0 c.in-Some.ensures.lookup.1 ∙ is.1)

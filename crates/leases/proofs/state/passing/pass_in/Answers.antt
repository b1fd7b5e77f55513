-- A query that runs is one running query.
use Rattle.std.proofs.Common.{refl, sym, ◌∙◌, subst}
use Rattle.laws_queries.specs.Plain.{PlainQuery}
use Rattle.query_runtime.specs.Passing.{AreQuiet, HavePassed}
use Rattle.laws_engine.proofs.BackLemmas.{same_plain}
use Rattle.leases.proofs.state.passing.pass_in.Goals as goal

pub pass-requires : goal.pass-requires
pass-requires c = subst (AreQuiet c.args.until) (sym (same_plain (sym c.running_mut.ensures.value ∙ c.requires.1.0))) c.requires.1.1

pub returns : goal.returns
returns c = λ p is. (c.pass.new.self, (refl, subst (λ (z : PlainQuery). HavePassed c.args.until z c.pass.new.self) (same_plain (sym c.running_mut.ensures.value ∙ is)) c.pass.ensures))

use Rattle.std.proofs.Common.{rules, ◌≡◌, ap, sym, ◌∙◌}
use Rattle.std.specs.List.{list_any}
use Rattle.std.proofs.lemmas.Iterator.{YieldsList-from_slice}
use Rattle.std.proofs.lemmas.Iterator.Search.{any_from_yields_List}
use Rattle.laws_engine.specs.Engines.{is_of}
use Rattle.leases.specs.Views.{lease_of}
use Rattle.leases.proofs.LookLemmas.{any_out}
use Rattle.leases.proofs.state.EngineState.is_leased.Goals as goal

pub returns : goal.returns
returns c =
    let is : c.any.result ≡ list_any (λ g. is_of c.args.query c.args.operator (lease_of g)) c.deref.result.now =
    any_from_yields_List (λ g. is_of c.args.query c.args.operator (lease_of g)) _ _ _ c.any.ensures.ran (YieldsList-from_slice c.deref.result.now cc) (λ x b f h. search rules) in
    is ∙ ap (λ gs. list_any (λ g. is_of c.args.query c.args.operator (lease_of g)) gs) c.deref.ensures.value ∙ sym (any_out (is_of c.args.query c.args.operator) c.args.self.now.leases.items)

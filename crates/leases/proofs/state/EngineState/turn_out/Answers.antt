-- The first turn of the number.
use Rattle.std.proofs.Common.{◌==◌, rules, tests, ◌∙◌, ap}
use Rattle.std.specs.List.{find}
use Rattle.std.proofs.lemmas.Iterator.{YieldsList-from_slice}
use Rattle.std.proofs.lemmas.Iterator.Search.{find_from_yields_List}
use Rattle.turn.specs.declared.turns.Turn.{Turn}
use Rattle.leases.proofs.state.EngineState.turn_out.Goals as goal

pub returns : goal.returns
returns c =
    find_from_yields_List (λ (g : Turn). g.lease == c.args.number) _ _ _ c.find.ensures.ran (YieldsList-from_slice c.deref.result.now cc) (λ x b q k. search (rules, tests))
    ∙ ap (λ gs. find (λ (g : Turn). g.lease == c.args.number) gs) c.deref.ensures.value

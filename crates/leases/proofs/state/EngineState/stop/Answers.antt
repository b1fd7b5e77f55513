-- What is left of the turns, the windows and the slots.
use Rattle.std.proofs.Common.{rules, ◌==◌, not, refl}
use Rattle.std.proofs.lemmas.Fn.{filter_same}
use Rattle.turn.specs.declared.turns.Turn.{Turn}
use Rattle.leases.proofs.state.EngineState.stop.Goals as goal

pub returns : goal.returns
returns c = record {
  leases = filter_same _ (λ (g : Turn). not (g.node.query == c.args.query)) _ (λ x b f h. search rules) _ _ c.retain.ensures.filtered;
  readers = c.forget.ensures;
  slots = c.drop_query.ensures;
  rest = refl;
}

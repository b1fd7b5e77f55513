use Rattle.std.proofs.Common.{◌∙◌, ap, position}
use Rattle.reference.specs.Machine.{is_called}
use Rattle.reference.specs.World.{query_named}
use Rattle.leases.specs.Shown.{engine_in}
use Rattle.leases.specs.Undropped.{UndroppedQueries}
use Rattle.leases.specs.declared.state.EngineState.{EngineState}
use Rattle.leases.proofs.engine.answering.EngineAnswering.query_named.Goals as goal

pub returns : goal.returns
unfolding query_named
returns c =
    c.query_place.ensures (engine_in c.self.inside.state).machine.queries (c.names-names.ensures ∙ ap (λ (u : UndroppedQueries). u.names) c.self.invariant.named)
    ∙ ap (λ (s : EngineState). position (is_called c.args.name.now) (engine_in s).machine.queries) c.self.view_is

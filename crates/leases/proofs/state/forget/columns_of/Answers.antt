use Rattle.std.proofs.Common.{[], ◌∷◌, ap, ◌∙◌}
use Rattle.std.proofs.lemmas.List.{map-append}
use Rattle.needed_rows.specs.Needed.{lists}
use Rattle.leases.proofs.LogLemmas.{column_next}
use Rattle.leases.proofs.state.forget.columns_of.Goals as goal

pub loop-column-preserved : goal.loop-column-preserved
loop-column-preserved c =
    ap lists c.in_ok-push.ensures.items ∙ map-append (λ b. b.now) c.loop-column.columns.items (c.column.result ∷ [])
    ∙ column_next c.args.log.now c.loop-column.column (lists c.loop-column.columns.items) c.column.result.now c.loop-column.invariant c.column.ensures

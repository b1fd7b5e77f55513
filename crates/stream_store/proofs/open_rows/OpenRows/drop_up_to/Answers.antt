use Rattle.std.proofs.Common.{◌∙◌, ap}
use Rattle.stream_store.specs.OpenRows.{OpenElements}
use Rattle.stream_store.specs.Open.{past}
use Rattle.stream_store.proofs.OpenLemmas.{past_rows, past_parts}
use Rattle.stream_store.proofs.open_rows.OpenRows.drop_up_to.Goals as goal

pub invariant_of-self : goal.invariant_of-self
invariant_of-self c =
    let o = c.self.inside in
    past_parts c.args.at o.rising c.drop_up_to.new.self o.late.entries c.drop_up_to-2.new.late.entries c.drop_up_to.ensures.rows c.drop_up_to-2.ensures c.drop_up_to.ensures.width c.drop_up_to.ensures.reached c.self.invariant

pub returns-clause-rows : goal.returns-clause-rows
returns-clause-rows c =
    let o = c.self.inside in
    past_rows c.args.at o.rising c.drop_up_to.new.self o.late.entries c.drop_up_to-2.new.late.entries c.drop_up_to.ensures.rows c.drop_up_to-2.ensures
    ∙ ap (λ (w : OpenElements). past c.args.at w.rows) c.self.view_is

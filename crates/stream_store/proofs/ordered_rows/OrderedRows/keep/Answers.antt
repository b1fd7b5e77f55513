use Rattle.std.proofs.Common.{◌∙◌, ap}
use Rattle.std.specs.List.{filter}
use Rattle.stream_store.specs.OpenRows.{RisenRows}
use Rattle.stream_store.specs.Starts.{has_reader}
use Rattle.stream_store.proofs.KeepLemmas.{risen-kept}
use Rattle.stream_store.proofs.ordered_rows.OrderedRows.keep.Goals as goal

pub invariant_of-self : goal.invariant_of-self
invariant_of-self c =
    let o = c.self.inside in
    risen-kept (has_reader c.args.starts.now) o.width o.reached o.heads.items c.keep_rows.new.heads.items o.values.items c.keep_rows.new.values.items c.self.invariant c.keep_rows.ensures.full c.keep_rows.ensures.rows

pub returns-clause-rows : goal.returns-clause-rows
returns-clause-rows c = c.keep_rows.ensures.rows ∙ ap (λ (r : RisenRows). filter (has_reader c.args.starts.now) r.rows) c.self.view_is

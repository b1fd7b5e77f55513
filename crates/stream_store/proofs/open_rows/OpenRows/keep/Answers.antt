use Rattle.std.proofs.Common.{◌∙◌, ap}
use Rattle.std.specs.List.{filter}
use Rattle.stream_store.specs.OpenRows.{OpenElements}
use Rattle.stream_store.specs.Starts.{has_reader}
use Rattle.stream_store.proofs.KeepLemmas.{read_parts, read_rows}
use Rattle.stream_store.proofs.open_rows.OpenRows.keep.Goals as goal

pub invariant_of-self : goal.invariant_of-self
invariant_of-self c =
    let o = c.self.inside in
    read_parts c.args.starts.now o.rising c.keep.new.self o.late.entries c.keep_read.new.late.entries c.keep.ensures.rows c.keep_read.ensures c.keep.ensures.width c.keep.ensures.reached c.self.invariant

pub returns-clause-rows : goal.returns-clause-rows
returns-clause-rows c =
    let o = c.self.inside in
    read_rows c.args.starts.now o.rising c.keep.new.self o.late.entries c.keep_read.new.late.entries c.keep.ensures.rows c.keep_read.ensures c.keep.ensures.rising
    ∙ ap (λ (w : OpenElements). filter (has_reader c.args.starts.now) w.rows) c.self.view_is

use Rattle.std.proofs.Common.{◌∙◌, suc, sym, ap}
use Rattle.cql_reader.specs.Names.{name_of}
use Rattle.reference.specs.Machine.{Stream}
use Rattle.stream_store.specs.Closing.{by_instant}
use Rattle.stream_store.proofs.StoredLemmas.{if_ok, open_stream}
use Rattle.stream_store.proofs.stored.Stored.open_rows_up_to.Goals as goal

pub returns : goal.returns
returns c =
    let s = c.self.inside in
    let e = sym (open_stream (name_of s.name) s.columns.items s.arrivals s.log s.open_rows.rows c.args.at c.self.invariant.0 c.until-until.ensures.ordered c.until-until.ensures.closed)
    ∙ ap (λ (s : Stream). by_instant s.first_open (suc c.args.at) s.elements) c.self.view_is in
    if_ok (λ v h. h ∙ e) c.rows_up_to.result c.rows_up_to.ensures

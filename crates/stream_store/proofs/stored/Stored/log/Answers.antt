use Rattle.std.proofs.Common.{◌∙◌, sym, ap}
use Rattle.cql_reader.specs.Names.{name_of}
use Rattle.reference.specs.Machine.{Stream}
use Rattle.stream_store.specs.Closing.{closed_of}
use Rattle.stream_store.proofs.StoredLemmas.{closed_stream}
use Rattle.stream_store.proofs.stored.Stored.log.Goals as goal

pub returns : goal.returns
returns c =
    let s = c.self.inside in
    sym (closed_stream (name_of s.name) s.columns.items s.arrivals s.log s.open_rows.rows c.self.invariant.0 c.until-until.ensures.ordered c.until-until.ensures.closed)
    ∙ ap (λ (s : Stream). closed_of s) c.self.view_is

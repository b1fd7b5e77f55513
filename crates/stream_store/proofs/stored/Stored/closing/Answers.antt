use Rattle.std.proofs.Common.{◌∙◌, sym, ap, ℕ, nat_abs, w64}
use Rattle.std.proofs.lemmas.Int.{to_z-of_z}
use Rattle.cql_reader.specs.Names.{name_of}
use Rattle.reference.specs.Machine.{Stream}
use Rattle.stream_store.specs.Open.{up_to}
use Rattle.stream_store.specs.Gains.{closing_of}
use Rattle.stream_store.proofs.StoredLemmas.{closing_stream, if_ok}
use Rattle.stream_store.proofs.stored.Stored.closing.Goals as goal

pub returns : goal.returns
returns c =
    let s = c.self.inside in
    let rows = s.open_rows.rows in
    let e = ap (λ (n : ℕ). up_to n rows) (c.last_closed-last.ensures.value ∙ ap nat_abs (to_z-of_z w64 c.args.at c.ranges.at))
    ∙ sym (closing_stream (name_of s.name) s.columns.items s.arrivals s.log rows c.args.at c.self.invariant.0 c.until-until.ensures.ordered c.until-until.ensures.closed)
    ∙ ap (λ (s : Stream). closing_of c.args.at s) c.self.view_is in
    if_ok (λ v h. h ∙ e) c.rows_up_to.result c.rows_up_to.ensures

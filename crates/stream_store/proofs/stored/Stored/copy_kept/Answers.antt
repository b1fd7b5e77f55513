use Rattle.std.proofs.Common.{◌≡◌, ◌≤◌, ◌∙◌, ◌++◌, ap, length, map, subst, sym, ℕ, List}
use Rattle.std.specs.List.{filter}
use Rattle.cql_reader.specs.declared.name.Name.{Name}
use Rattle.cql_reader.specs.Names.{name_of}
use Rattle.names.specs.Names.{names_of}
use Rattle.values.specs.Window.{Element}
use Rattle.op_queue.specs.Logs.{Closed}
use Rattle.reference.specs.Machine.{Stream}
use Rattle.stream_store.specs.Closing.{closed_of}
use Rattle.stream_store.specs.Kept.{count_closed, kept_stream}
use Rattle.stream_store.specs.OpenRows.{OpenElements}
use Rattle.stream_store.specs.Starts.{has_reader}
use Rattle.stream_store.specs.Stored.{IsStored, stream_in}
use Rattle.stream_store.proofs.StoredLemmas.{closed_stream}
use Rattle.stream_store.proofs.KeepLemmas.{kept_as_said, stored_kept}
use Rattle.stream_store.proofs.stored.Stored.copy_kept.Goals as goal

pub copy_marked-requires-clause-marks : goal.copy_marked-requires-clause-marks
copy_marked-requires-clause-marks c =
    let s = c.self.inside in
    c.requires
    ∙ ap (λ (s : Stream). count_closed s) (sym c.self.view_is)
    ∙ ap (λ (l : Closed). length l.elements) (closed_stream (name_of s.name) s.columns.items s.arrivals s.log s.open_rows.rows c.self.invariant.0 c.until-until.ensures.ordered c.until-until.ensures.closed)

pub invariant_of-result : goal.invariant_of-result
invariant_of-result c =
    let s = c.self.inside in
    let p = has_reader c.args.starts.now in
    let columns : c.extend_from_slice.new.self.items ≡ s.columns.items =
    c.in_ok-extend_from_slice.ensures.items ∙ ap (λ (xs : List Name). xs ++ c.deref.result.now) c.new-columns.ensures.items ∙ c.deref.ensures.value in
    let rows : c.keep.new.self.rows ≡ filter p s.open_rows.rows = c.keep.ensures.rows ∙ ap (λ (w : OpenElements). filter p w.rows) c.in_ok-open_rows.ensures in
    let count : length c.extend_from_slice.new.self.items ≡ length s.columns.items = ap length columns in
    let stored = stored_kept (length s.columns.items) s.arrivals s.log c.in_ok-log.log s.open_rows.rows p c.args.kept.now c.self.invariant.0 c.in_ok-log.ensures.elements c.in_ok-log.ensures.until c.in_ok-log.ensures.width in (
      subst (λ (n : ℕ). IsStored n s.arrivals c.in_ok-log.log c.keep.new.self.rows) (sym count) (subst (λ (es : List Element). IsStored (length s.columns.items) s.arrivals c.in_ok-log.log es) (sym rows) stored),
      c.keep.ensures.width ∙ ap (λ (w : OpenElements). w.width) c.in_ok-open_rows.ensures ∙ c.self.invariant.1 ∙ sym count,
    )

pub returns : goal.returns
returns c = record {
  elements = λ keep says.
      let s = c.self.inside in
      let p = has_reader c.args.starts.now in
      let columns : c.extend_from_slice.new.self.items ≡ s.columns.items =
      c.in_ok-extend_from_slice.ensures.items ∙ ap (λ (xs : List Name). xs ++ c.deref.result.now) c.new-columns.ensures.items ∙ c.deref.ensures.value in
      let rows : c.keep.new.self.rows ≡ filter p s.open_rows.rows = c.keep.ensures.rows ∙ ap (λ (w : OpenElements). filter p w.rows) c.in_ok-open_rows.ensures in
      let log : closed_of c.args.self.now ≡ s.log =
      ap (λ (s : Stream). closed_of s) (sym c.self.view_is)
      ∙ closed_stream (name_of s.name) s.columns.items s.arrivals s.log s.open_rows.rows c.self.invariant.0 c.until-until.ensures.ordered c.until-until.ensures.closed in
      let marked = says.closed ∙ ap (λ (l : Closed). map keep l.elements) log in
      let agrees : (e : Element) → s.log.until ≤ e.instant → keep e ≡ p e = λ e le. says.opened e (subst (λ (l : Closed). l.until ≤ e.instant) (sym log) le) in
      ap (λ (es : List Element). stream_in (name_of s.name) (names_of c.extend_from_slice.new.self.items) s.arrivals c.in_ok-log.log es) rows
      ∙ ap (λ (xs : List Name). stream_in (name_of s.name) (names_of xs) s.arrivals c.in_ok-log.log (filter p s.open_rows.rows)) columns
      ∙ kept_as_said (length s.columns.items) s.arrivals s.log c.in_ok-log.log s.open_rows.rows p c.args.kept.now c.self.invariant.0 c.in_ok-log.ensures.elements c.in_ok-log.ensures.until (name_of s.name) (names_of s.columns.items) keep marked agrees
      ∙ ap (λ (s : Stream). kept_stream keep s) c.self.view_is;
}

use Rattle.std.proofs.Common.{◌≡◌, ◌≤◌, ◌∙◌, ap, length, map, subst, sym, List}
use Rattle.cql_reader.specs.Names.{name_of}
use Rattle.names.specs.Names.{names_of}
use Rattle.values.specs.Window.{Element}
use Rattle.op_queue.specs.Logs.{Closed}
use Rattle.reference.specs.Machine.{Stream}
use Rattle.stream_store.specs.Closing.{closed_of}
use Rattle.stream_store.specs.Kept.{count_closed, kept_stream}
use Rattle.stream_store.specs.Starts.{has_reader}
use Rattle.stream_store.specs.Stored.{IsStored, stream_in}
use Rattle.stream_store.proofs.StoredLemmas.{closed_stream}
use Rattle.stream_store.proofs.KeepLemmas.{kept_as_said, kept_rest, stored_kept}
use Rattle.stream_store.proofs.stored.Stored.keep.Goals as goal

pub keep-requires : goal.keep-requires
keep-requires c =
    let s = c.self.inside in
    c.requires
    ∙ ap (λ (s : Stream). count_closed s) (sym c.self.view_is)
    ∙ ap (λ (l : Closed). length l.elements) (closed_stream (name_of s.name) s.columns.items s.arrivals s.log s.open_rows.rows c.self.invariant.0 c.until-until.ensures.ordered c.until-until.ensures.closed)

pub invariant_of-self : goal.invariant_of-self
invariant_of-self c =
    let s = c.self.inside in
    let p = has_reader c.args.starts.now in (
      subst (λ (es : List Element). IsStored (length s.columns.items) s.arrivals c.keep.new.self es) (sym c.keep-2.ensures.rows)
          (stored_kept (length s.columns.items) s.arrivals s.log c.keep.new.self s.open_rows.rows p c.args.kept.now c.self.invariant.0 c.keep.ensures.elements c.keep.ensures.until c.keep.ensures.width),
      c.keep-2.ensures.width ∙ c.self.invariant.1,
    )

pub returns-clause-elements : goal.returns-clause-elements
returns-clause-elements c = λ keep says.
    let s = c.self.inside in
    let p = has_reader c.args.starts.now in
    let log : closed_of c.args.self.now ≡ s.log =
    ap (λ (s : Stream). closed_of s) (sym c.self.view_is)
    ∙ closed_stream (name_of s.name) s.columns.items s.arrivals s.log s.open_rows.rows c.self.invariant.0 c.until-until.ensures.ordered c.until-until.ensures.closed in
    let marked = says.closed ∙ ap (λ (l : Closed). map keep l.elements) log in
    let agrees : (e : Element) → s.log.until ≤ e.instant → keep e ≡ p e = λ e le. says.opened e (subst (λ (l : Closed). l.until ≤ e.instant) (sym log) le) in
    ap (λ (es : List Element). stream_in (name_of s.name) (names_of s.columns.items) s.arrivals c.keep.new.self es) c.keep-2.ensures.rows
    ∙ kept_as_said (length s.columns.items) s.arrivals s.log c.keep.new.self s.open_rows.rows p c.args.kept.now c.self.invariant.0 c.keep.ensures.elements c.keep.ensures.until (name_of s.name) (names_of s.columns.items) keep marked agrees
    ∙ ap (λ (s : Stream). kept_stream keep s) c.self.view_is

pub returns-clause-rest : goal.returns-clause-rest
returns-clause-rest c =
    let s = c.self.inside in
    let new : Stream = stream_in (name_of s.name) (names_of s.columns.items) s.arrivals c.keep.new.self c.keep-2.new.self.rows in
    kept_rest (length s.columns.items) s.arrivals s.log c.keep.new.self s.open_rows.rows (has_reader c.args.starts.now) c.args.kept.now c.self.invariant.0 c.keep.ensures.elements c.keep.ensures.until (name_of s.name) (names_of s.columns.items) c.keep-2.new.self.rows
    ∙ ap (λ (s : Stream). record s { elements = new.elements }) c.self.view_is

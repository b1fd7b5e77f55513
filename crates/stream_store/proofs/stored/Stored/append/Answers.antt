use Rattle.std.proofs.Common.{◌≡◌, ◌∙◌, ◌+◌, sym, ap, subst, ℕ, List, arith, None, length}
use Rattle.std.proofs.lemmas.List.{length-map}
use Rattle.cql_reader.specs.Names.{name_of}
use Rattle.names.specs.Names.{names_of}
use Rattle.reference.specs.Machine.{Stream}
use Rattle.names.specs.Faults.{first_of}
use Rattle.reference.specs.Commands.{append_tests, appended}
use Rattle.reference.specs.Appended.{kept_of}
use Rattle.values.specs.Row.{Row}
use Rattle.values.specs.Window.{Element}
use Rattle.stream_store.specs.Open.{after_put}
use Rattle.stream_store.specs.Stored.{IsStored, stream_in}
use Rattle.stream_store.proofs.RunLemmas.{accepted_lent}
use Rattle.stream_store.proofs.StoredLemmas.{stored_put, put_stream, rows_room}
use Rattle.stream_store.proofs.stored.Stored.append.Goals as goal

pub put_all-requires-clause-room : goal.put_all-requires-clause-room
put_all-requires-clause-room c =
    let s = c.self.inside in
    let rows = c.args.rows.now in
    let many : length c.instants.result.now ≡ length rows = ap length c.instants.ensures ∙ length-map rows (λ r. r.0) in
    let accepted = subst (λ (s : Stream). first_of (append_tests s rows) ≡ None) (sym c.self.view_is) c.requires in
    omega (arith, many, rows_room (name_of s.name) s.columns.items s.arrivals s.log s.open_rows.rows rows accepted)

pub put_all-requires-clause-full : goal.put_all-requires-clause-full
put_all-requires-clause-full c =
    let s = c.self.inside in
    let wide : length c.args.self.now.columns ≡ s.open_rows.width = sym (ap (λ (s : Stream). length s.columns) c.self.view_is) ∙ length-map s.columns.items name_of ∙ sym c.self.invariant.1 in
    (accepted_lent c.args.self.now c.args.rows.now c.requires s.open_rows.width wide c.instants.result.now c.values.result.now c.instants.ensures c.values.ensures).full

pub put_all-requires-clause-instants : goal.put_all-requires-clause-instants
put_all-requires-clause-instants c =
    let s = c.self.inside in
    let wide : length c.args.self.now.columns ≡ s.open_rows.width = sym (ap (λ (s : Stream). length s.columns) c.self.view_is) ∙ length-map s.columns.items name_of ∙ sym c.self.invariant.1 in
    (accepted_lent c.args.self.now c.args.rows.now c.requires s.open_rows.width wide c.instants.result.now c.values.result.now c.instants.ensures c.values.ensures).instants_good

pub put_all-requires-clause-values : goal.put_all-requires-clause-values
put_all-requires-clause-values c =
    let s = c.self.inside in
    let wide : length c.args.self.now.columns ≡ s.open_rows.width = sym (ap (λ (s : Stream). length s.columns) c.self.view_is) ∙ length-map s.columns.items name_of ∙ sym c.self.invariant.1 in
    (accepted_lent c.args.self.now c.args.rows.now c.requires s.open_rows.width wide c.instants.result.now c.values.result.now c.instants.ensures c.values.ensures).values_good

pub invariant_of-self-2 : goal.invariant_of-self-2
invariant_of-self-2 c =
    let s = c.self.inside in
    let rows = c.args.rows.now in
    let old = s.open_rows.rows in
    let wide : length c.args.self.now.columns ≡ s.open_rows.width = sym (ap (λ (s : Stream). length s.columns) c.self.view_is) ∙ length-map s.columns.items name_of ∙ sym c.self.invariant.1 in
    let lent = accepted_lent c.args.self.now rows c.requires s.open_rows.width wide c.instants.result.now c.values.result.now c.instants.ensures c.values.ensures in
    let e = c.in_ok-put_all.ensures.ok ∙ ap (λ (new : List (ℕ × Row)). after_put s.arrivals new old) lent.kept in
    let accepted = subst (λ (s : Stream). first_of (append_tests s rows) ≡ None) (sym c.self.view_is) c.requires in
    let put = stored_put (name_of s.name) s.columns.items s.arrivals s.log old rows accepted c.self.invariant.0 in (
      subst (λ (es : List Element). IsStored (length s.columns.items) (s.arrivals + c.len.result) s.log es) (sym e)
          (subst (λ (k : ℕ). IsStored (length s.columns.items) (s.arrivals + k) s.log (after_put s.arrivals (kept_of rows) old)) (sym c.len.ensures) put),
      c.put_all.ensures.width ∙ c.self.invariant.1,
    )

pub returns-clause-ok : goal.returns-clause-ok
returns-clause-ok c =
    let s = c.self.inside in
    let rows = c.args.rows.now in
    let old = s.open_rows.rows in
    let wide : length c.args.self.now.columns ≡ s.open_rows.width = sym (ap (λ (s : Stream). length s.columns) c.self.view_is) ∙ length-map s.columns.items name_of ∙ sym c.self.invariant.1 in
    let lent = accepted_lent c.args.self.now rows c.requires s.open_rows.width wide c.instants.result.now c.values.result.now c.instants.ensures c.values.ensures in
    let e = c.in_ok-put_all.ensures.ok ∙ ap (λ (new : List (ℕ × Row)). after_put s.arrivals new old) lent.kept in
    ap (λ (es : List Element). stream_in (name_of s.name) (names_of s.columns.items) (s.arrivals + c.len.result) s.log es) e
    ∙ ap (λ (k : ℕ). stream_in (name_of s.name) (names_of s.columns.items) (s.arrivals + k) s.log (after_put s.arrivals (kept_of rows) old)) c.len.ensures
    ∙ put_stream (name_of s.name) (names_of s.columns.items) s.arrivals s.log old rows c.self.invariant.0.numbered c.self.invariant.0.came
    ∙ ap (λ (s : Stream). appended rows s) c.self.view_is

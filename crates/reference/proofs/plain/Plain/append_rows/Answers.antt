use Rattle.std.proofs.Common.{◌≡◌, ◌<◌, List, length, ap, map, sym, subst, ◌∙◌, get_or}
use Rattle.std.specs.Prelude.{slice_get}
use Rattle.reference.specs.Machine.{Stream}
use Rattle.reference.specs.World.{World}
use Rattle.reference.specs.Commands.{appended, rows_tests}
use Rattle.reference.specs.Standing.{query_of}
use Rattle.reference.proofs.StepLemmas.{set-change_self, on_ok, stream_in, made}
use Rattle.reference.proofs.StepLemmas.{on_err}
use Rattle.reference.proofs.NamedLemmas.{catalog-set, names-set, either_way}
use Rattle.reference.proofs.ClosedLemmas.{appended_later}
use Rattle.reference.proofs.StreamLemmas.{alone}
use Rattle.reference.proofs.WaitingLemmas.{NextWait, later_wait, set_unchanged, wait_all, wait_each}
use Rattle.reference.proofs.plain.Plain.append_rows.Goals as goal

pub returns-clause-ok : goal.returns-clause-ok
returns-clause-ok c =
    let p = c.args.self.now in
    let lt : c.args.stream < length p.streams.items = stream_in (rows_tests (map query_of p.queries.items) c.args.stream c.args.rows.now) p.streams.items c.args.stream c.requires in
    let streamed : List Stream → World = λ xs. made xs p.queries.items in
    on_ok c.append.result
    (λ h. ap streamed (set-change_self (appended c.args.rows.now) p.streams.items c.args.stream c.append.new.self c.index_mut.result.now lt (h ∙ ap (appended c.args.rows.now) c.index_mut.ensures.value)))
    c.append.ensures.ok

pub invariant_of-self : goal.invariant_of-self
invariant_of-self c =
    let p = c.args.self.now in
    let xs = p.streams.items in
    let x = c.append.new.self in
    let d = c.index_mut.result.now in
    let lt : c.args.stream < length xs = stream_in (rows_tests (map query_of p.queries.items) c.args.stream c.args.rows.now) xs c.args.stream c.requires in
    let name : x.name ≡ (get_or xs c.args.stream d).name =
    either_way c.append.result
    (on_ok c.append.result (λ h. ap (λ (s : Stream). s.name) (h ∙ ap (appended c.args.rows.now) c.index_mut.ensures.value)) c.append.ensures.ok)
    (on_err c.append.result (λ h. ap (λ (s : Stream). s.name) (h ∙ c.index_mut.ensures.value)) c.append.ensures.err) in
    let columns : x.columns ≡ (get_or xs c.args.stream d).columns =
    either_way c.append.result
    (on_ok c.append.result (λ h. ap (λ (s : Stream). s.columns) (h ∙ ap (appended c.args.rows.now) c.index_mut.ensures.value)) c.append.ensures.ok)
    (on_err c.append.result (λ h. ap (λ (s : Stream). s.columns) (h ∙ c.index_mut.ensures.value)) c.append.ensures.err) in
    record {
      declared = p.declared ∙ sym (catalog-set xs c.args.stream x d name columns);
      few = p.few;
      streams_are_named = p.streams_are_named ∙ sym (names-set xs c.args.stream x d name);
      queries_are_named = p.queries_are_named;
      next_wait =
          wait_all _ _
          (either_way c.append.result
          (on_ok c.append.result
          (λ h. subst (λ (ss : List Stream). NextWait ss p.queries.items)
          (sym (set-change_self (appended c.args.rows.now) xs c.args.stream x d lt (h ∙ ap (appended c.args.rows.now) c.index_mut.ensures.value)))
          (later_wait xs _ (appended_later xs c.args.stream c.args.rows.now (alone (map query_of p.queries.items) c.args.stream c.args.rows.now (slice_get xs c.args.stream) c.requires)) p.queries.items (wait_each p.streams.items p.queries.items p.next_wait)))
          c.append.ensures.ok)
          (on_err c.append.result
          (λ h. subst (λ (ss : List Stream). NextWait ss p.queries.items)
          (sym (set_unchanged xs c.args.stream x d (h ∙ c.index_mut.ensures.value))) (wait_each p.streams.items p.queries.items p.next_wait))
          c.append.ensures.err));
    }

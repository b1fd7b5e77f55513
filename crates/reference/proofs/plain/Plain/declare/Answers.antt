use Rattle.std.proofs.Common.{◌≡◌, ◌≤◌, ◌++◌, ◌∷◌, [], Some, List, length, position, map, sym, ap, subst, ◌∙◌, arith}
use Rattle.std.proofs.lemmas.List.{length-map, map-append}
use Rattle.name_table.specs.Names.{bears}
use Rattle.reference.specs.Machine.{Stream}
use Rattle.reference.specs.Commands.{catalog_of}
use Rattle.reference.specs.Named.{stream_name}
use Rattle.reference.specs.CallViews.{texts_of}
use Rattle.reference.specs.PlainViews.{machine_in}
use Rattle.reference.proofs.NameLemmas.{short, declared_name, declared_columns}
use Rattle.reference.proofs.NamedLemmas.{stream-place, declared_new, declared_few, all_of, streams-pushed, as_declared}
use Rattle.reference.proofs.ClosedLemmas.{pushed_later}
use Rattle.reference.proofs.WaitingLemmas.{NextWait, later_wait, wait_all, wait_each}
use Rattle.reference.proofs.plain.Plain.declare.Goals as goal

pub new-requires : goal.new-requires
new-requires c = rw c.as_bytes.ensures.value (short c.args.name.now (declared_name (machine_in c.args.self.now) c.args.name.now (texts_of c.args.columns.now) c.args.from c.requires))

pub names_of-requires : goal.names_of-requires
names_of-requires c = declared_columns (machine_in c.args.self.now) c.args.name.now (texts_of c.args.columns.now) c.args.from c.requires

pub push-requires-clause-fresh : goal.push-requires-clause-fresh
push-requires-clause-fresh c =
    let p = c.args.self.now in
    ap (position (bears c.args.name.now)) p.streams_are_named
    ∙ stream-place c.args.name.now p.streams.items
    ∙ declared_new (machine_in p) c.args.name.now (texts_of c.args.columns.now) c.args.from c.requires

pub push-requires-clause-room : goal.push-requires-clause-room
push-requires-clause-room c =
    let p = c.args.self.now in
    omega (
      arith,
      ap length p.streams_are_named,
      length-map p.streams.items stream_name,
      declared_few (machine_in p) c.args.name.now (texts_of c.args.columns.now) c.args.from c.requires,
    )

pub invariant_of-self-2 : goal.invariant_of-self-2
invariant_of-self-2 c =
    let p = c.args.self.now in
    let s = c.new-stream.result in
    let items : c.push_reserved.new.self.items ≡ p.streams.items ++ s ∷ []
    = c.push_reserved.ensures.items ∙ ap (λ (ss : List Stream). ss ++ s ∷ []) c.in_ok-reserve.ensures.items in
    let names = c.in_ok-push.ensures.ok ∙ ap (λ ns. ns ++ Some c.args.name.now ∷ []) p.streams_are_named in
    record {
      declared =
          (rw c.deref.ensures.value at c.in_ok-catalog.ensures.catalog) ∙ sym (map-append as_declared p.streams.items (s ∷ []))
          ∙ ap catalog_of (sym items);
      few = all_of (λ s. length s.columns ≤ 8) c.in_ok-catalog.catalog c.in_ok-catalog.ensures.few;
      streams_are_named = streams-pushed _ p.streams.items s c.args.name.now names (ap (λ (s : Stream). s.name) c.new-stream.ensures ∙ c.new.ensures ∙ c.as_bytes.ensures.value) ∙ ap (map stream_name) (sym items);
      queries_are_named = p.queries_are_named;
      next_wait =
          wait_all _ _
          (subst (λ (ss : List Stream). NextWait ss p.queries.items) (sym items)
          (later_wait p.streams.items (p.streams.items ++ s ∷ []) (pushed_later p.streams.items s) p.queries.items (wait_each p.streams.items p.queries.items p.next_wait)));
    }

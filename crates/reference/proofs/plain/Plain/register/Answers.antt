use Rattle.std.proofs.Common.{◌≡◌, ℕ, List, [], length, ap, sym, subst, ◌∙◌, map, ◌++◌, ◌∷◌, arith}
use Rattle.reference.specs.Machine.{Registered}
use Rattle.reference.specs.Commands.{registered_as}
use Rattle.reference.specs.PlainViews.{machine_in}
use Rattle.reference.specs.Places.{machine_of}
use Rattle.reference.specs.Standing.{query_of, found_of}
use Rattle.reference.specs.declared.standing.StandingQuery.{StandingQuery}
use Rattle.reference.proofs.StepLemmas.{made, registered_world}
use Rattle.std.proofs.Common.{position, Some}
use Rattle.std.proofs.lemmas.List.{length-map}
use Rattle.name_table.specs.Names.{bears}
use Rattle.reference.specs.Named.{name_of_registered, query_name}
use Rattle.reference.proofs.NamedLemmas.{query-place, registered_new, registered_few, queries-pushed}
use Rattle.reference.proofs.WaitingLemmas.{NextWait, pushed_wait, wait_all, wait_each}
use Rattle.reference.proofs.plain.Plain.register.Goals as goal

pub returns-clause-ok : goal.returns-clause-ok
returns-clause-ok c =
    let p = c.args.self.now in
    let items : c.push_reserved.new.self.items ≡ p.queries.items ++ c.in_ok-query.query ∷ []
    = c.push_reserved.ensures.items ∙ ap (λ (qs : List StandingQuery). qs ++ c.in_ok-query.query ∷ []) c.in_ok-reserve.ensures.items in
    let named : query_of c.in_ok-query.query ≡ registered_as (machine_of p.streams.items) c.args.name.now (found_of c.args.plan)
    = (rw c.deref.ensures.value at c.in_ok-query.ensures.query) ∙ ap (λ (n : List ℕ). registered_as (machine_of p.streams.items) n (found_of c.args.plan)) c.in_ok-own_name.ensures.ok in
    ap (made p.streams.items) items ∙ registered_world p.streams.items p.queries.items c.in_ok-query.query _ _ named c.in_ok-query.ensures.waiting (c.in_ok-query.ensures.upto ∙ ap (λ (r : Registered). r.first) named)

pub push-requires-clause-fresh : goal.push-requires-clause-fresh
push-requires-clause-fresh c =
    let p = c.args.self.now in
    ap (position (bears c.args.name.now)) p.queries_are_named
    ∙ query-place c.args.name.now p.queries.items
    ∙ registered_new (machine_in p) c.args.name.now c.requires.fresh

pub push-requires-clause-room : goal.push-requires-clause-room
push-requires-clause-room c =
    let p = c.args.self.now in
    omega (
      arith,
      ap length p.queries_are_named,
      length-map p.queries.items query_name,
      length-map p.queries.items query_of,
      registered_few (machine_in p) c.args.name.now c.requires.fresh,
    )

pub invariant_of-self-2 : goal.invariant_of-self-2
invariant_of-self-2 c =
    let p = c.args.self.now in
    let q = c.in_ok-query.query in
    let items : c.push_reserved.new.self.items ≡ p.queries.items ++ q ∷ []
    = c.push_reserved.ensures.items ∙ ap (λ (qs : List StandingQuery). qs ++ q ∷ []) c.in_ok-reserve.ensures.items in
    let names = c.in_ok-push.ensures.ok ∙ ap (λ ns. ns ++ Some c.args.name.now ∷ []) p.queries_are_named in
    let name : query_name q ≡ Some c.args.name.now = ap name_of_registered c.in_ok-query.ensures.query ∙ ap Some c.in_ok-own_name.ensures.ok in
    record {
      declared = p.declared;
      few = p.few;
      streams_are_named = p.streams_are_named;
      queries_are_named = queries-pushed _ p.queries.items q c.args.name.now names name ∙ ap (map query_name) (sym items);
      next_wait =
          wait_all _ _
          (subst (λ (qs : List StandingQuery). NextWait p.streams.items qs) (sym items)
          (pushed_wait p.streams.items p.queries.items q c.in_ok-query.ensures.waiting (wait_each p.streams.items p.queries.items p.next_wait)));
    }

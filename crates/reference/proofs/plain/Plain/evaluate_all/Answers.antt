use Rattle.std.proofs.Common.{◌≡◌, ℕ, List, length, ap, ap₂, sym, subst, ◌∙◌, map, arith}
use Rattle.std.proofs.lemmas.List.{with_items_is, length-map}
use Rattle.values.specs.Row.{Row}
use Rattle.reference.specs.Machine.{Registered}
use Rattle.reference.specs.World.{World, untaken}
use Rattle.reference.specs.PlainViews.{machine_in}
use Rattle.reference.specs.Places.{machine_of}
use Rattle.reference.specs.Standing.{query_of, waiting_of, upto_of}
use Rattle.reference.specs.declared.plain.Plain.{Plain}
use Rattle.reference.specs.declared.standing.StandingQuery.{StandingQuery}
use Rattle.reference.proofs.StepLemmas.{on_ok, on_err, made}
use Rattle.reference.specs.Named.{query_name}
use Rattle.reference.proofs.NamedLemmas.{either_way, names_stay}
use Rattle.reference.proofs.WaitingLemmas.{NextWait, on_ok₂, on_err₂, drained_wait, same_wait, wait_all, wait_each}
use Rattle.reference.proofs.plain.Plain.evaluate_all.Goals as goal

abbrev waits : Plain → List (List (ℕ × Row)) → List ℕ → World
waits p ws us = record { machine = machine_in p; waiting = ws; upto = us }

abbrev asks : Plain → List StandingQuery → List Registered → World
asks p new qs = record { machine = record { streams = p.streams.items; queries = qs }; waiting = map waiting_of new; upto = map upto_of new }

pub returns-clause-ok : goal.returns-clause-ok
returns-clause-ok c =
    let p = c.args.self.now in
    let new = c.refresh_all.new.queries in
    let same : map query_of new ≡ map query_of p.queries.items = rw c.deref_mut.ensures.value at c.refresh_all.ensures.queries in
    let sizes = ap length same in
    let len : length new ≡ p.queries.len = omega (arith, sizes, length-map new query_of, length-map p.queries.items query_of, p.queries.ok.0) in
    on_ok₂ c.refresh_all.result
    (λ h k. ap (made p.streams.items) (with_items_is p.queries new len) ∙ ap (asks p new) same ∙ ap₂ (waits p) (h ∙ ap (map (untaken (machine_of p.streams.items))) same) k)
    (rw c.deref.ensures.value at c.refresh_all.ensures.waiting)
    (rw (c.deref.ensures.value, c.deref_mut.ensures.value) at c.refresh_all.ensures.upto)

pub returns-clause-err : goal.returns-clause-err
returns-clause-err c =
    let p = c.args.self.now in
    let new = c.refresh_all.new.queries in
    let same : map query_of new ≡ map query_of p.queries.items = rw c.deref_mut.ensures.value at c.refresh_all.ensures.queries in
    let sizes = ap length same in
    let len : length new ≡ p.queries.len = omega (arith, sizes, length-map new query_of, length-map p.queries.items query_of, p.queries.ok.0) in
    on_err₂ c.refresh_all.result
    (λ h k. ap (made p.streams.items) (with_items_is p.queries new len) ∙ ap (asks p new) same ∙ ap₂ (waits p) h k)
    (rw c.deref_mut.ensures.value at c.refresh_all.ensures.err)
    (rw c.deref_mut.ensures.value at c.refresh_all.ensures.err_upto)

pub invariant_of-self : goal.invariant_of-self
invariant_of-self c =
    let p = c.args.self.now in
    let new = c.refresh_all.new.queries in
    let same : map query_of new ≡ map query_of p.queries.items = rw c.deref_mut.ensures.value at c.refresh_all.ensures.queries in
    let sizes = ap length same in
    let len : length new ≡ p.queries.len = omega (arith, sizes, length-map new query_of, length-map p.queries.items query_of, p.queries.ok.0) in
    record {
      declared = p.declared;
      few = p.few;
      streams_are_named = p.streams_are_named;
      queries_are_named = p.queries_are_named ∙ sym (ap (map query_name) (with_items_is p.queries new len) ∙ names_stay new p.queries.items same);
      next_wait =
          wait_all _ _
          (subst (λ (qs : List StandingQuery). NextWait p.streams.items qs) (sym (with_items_is p.queries new len))
          (either_way c.refresh_all.result
          (on_ok c.refresh_all.result (λ h. drained_wait p.streams.items new h) (rw c.deref.ensures.value at c.refresh_all.ensures.waiting))
          (on_err c.refresh_all.result (λ h. same_wait p.streams.items new p.queries.items same h (wait_each p.streams.items p.queries.items p.next_wait)) (rw c.deref_mut.ensures.value at c.refresh_all.ensures.err))));
    }

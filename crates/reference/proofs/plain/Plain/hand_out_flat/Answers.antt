use Rattle.std.proofs.Common.{◌≡◌, ◌<◌, ℕ, List, length, ap, sym, subst, ◌∙◌, min, nat_abs, drop, get_or, w64}
use Rattle.std.proofs.lemmas.Int.{to_z-of_z}
use Rattle.reference.specs.Machine.{Machine, Registered}
use Rattle.reference.specs.World.{waiting_at}
use Rattle.reference.specs.Commands.{took, take_tests}
use Rattle.reference.specs.PlainViews.{world_of}
use Rattle.reference.specs.Standing.{query_of, waiting_of, upto_of}
use Rattle.reference.specs.declared.standing.StandingQuery.{StandingQuery}
use Rattle.reference.proofs.StepLemmas.{set-change, on_ok, handed_count, query_in}
use Rattle.std.proofs.Math.Seq.{map-set_same}
use Rattle.reference.specs.Named.{name_of_registered, query_name}
use Rattle.reference.proofs.StepLemmas.{on_err}
use Rattle.reference.proofs.NamedLemmas.{either_way}
use Rattle.reference.proofs.WaitingLemmas.{IsNext, on_ok₂, set_wait, taken_wait, wait_all, wait_each}
use Rattle.reference.proofs.plain.Plain.hand_out_flat.Goals as goal

pub returns-clause-machine : goal.returns-clause-machine
returns-clause-machine c =
    let p = c.args.self.now in
    let lt : c.args.query < length p.queries.items = query_in (take_tests c.args.limit) p.queries.items c.args.query c.requires in
    let old = c.index_mut.result.now in
    let count = handed_count p.queries.items c.args.query (nat_abs c.args.limit) old lt in
    let limit = to_z-of_z w64 c.args.limit c.ranges.limit in
    let machine : List Registered → Machine = λ qs. record { streams = p.streams.items; queries = qs } in
    on_ok c.take_flat.result
    (λ h. ap machine (set-change query_of (took (min (nat_abs c.args.limit) (length (waiting_at (world_of p) c.args.query)))) p.queries.items c.args.query c.take_flat.new.self old lt
    (h ∙ ap (λ (q : StandingQuery). took (min (nat_abs c.args.limit) (length (waiting_of q))) (query_of q)) c.index_mut.ensures.value
    ∙ ap (λ (n : ℕ). took n (query_of (get_or p.queries.items c.args.query old))) count)))
    (simp limit at c.take_flat.ensures.query)

pub returns-clause-waiting : goal.returns-clause-waiting
returns-clause-waiting c =
    let p = c.args.self.now in
    let lt : c.args.query < length p.queries.items = query_in (take_tests c.args.limit) p.queries.items c.args.query c.requires in
    let old = c.index_mut.result.now in
    let count = handed_count p.queries.items c.args.query (nat_abs c.args.limit) old lt in
    let limit = to_z-of_z w64 c.args.limit c.ranges.limit in
    on_ok c.take_flat.result
    (λ h. set-change waiting_of (drop (min (nat_abs c.args.limit) (length (waiting_at (world_of p) c.args.query)))) p.queries.items c.args.query c.take_flat.new.self old lt
    (h ∙ ap (λ (q : StandingQuery). drop (min (nat_abs c.args.limit) (length (waiting_of q))) (waiting_of q)) c.index_mut.ensures.value
    ∙ ap (λ (n : ℕ). drop n (waiting_of (get_or p.queries.items c.args.query old))) count))
    (simp limit at c.take_flat.ensures.waiting)

pub returns-clause-upto : goal.returns-clause-upto
returns-clause-upto c =
    let p = c.args.self.now in
    let old = c.index_mut.result.now in
    let same = map-set_same upto_of p.queries.items c.args.query c.take_flat.new.self old (c.take_flat.ensures.upto ∙ ap upto_of c.index_mut.ensures.value) in
    on_ok c.take_flat.result (λ h. same) c.take_flat.ensures.query

pub invariant_of-self : goal.invariant_of-self
invariant_of-self c =
    let p = c.args.self.now in
    let qs = p.queries.items in
    let x = c.take_flat.new.self in
    let d = c.index_mut.result.now in
    let lt : c.args.query < length qs = query_in (take_tests c.args.limit) qs c.args.query c.requires in
    let name : query_name x ≡ query_name (get_or qs c.args.query d) =
    either_way c.take_flat.result
    (on_ok c.take_flat.result (λ h. ap name_of_registered h ∙ ap query_name c.index_mut.ensures.value) c.take_flat.ensures.query)
    (on_err c.take_flat.result (λ h. ap query_name (h ∙ c.index_mut.ensures.value)) c.take_flat.ensures.err) in
    record {
      declared = p.declared;
      few = p.few;
      streams_are_named = p.streams_are_named;
      queries_are_named = p.queries_are_named ∙ sym (map-set_same query_name qs c.args.query x d name);
      next_wait =
          wait_all _ _
          (set_wait p.streams.items qs c.args.query x d lt
          (λ before.
          let at : IsNext p.streams.items (query_of d) (waiting_of d) =
          subst (λ (q : StandingQuery). IsNext p.streams.items (query_of q) (waiting_of q)) (sym c.index_mut.ensures.value) before in
          either_way c.take_flat.result
          (on_ok₂ c.take_flat.result (λ query waiting. taken_wait p.streams.items x d _ query waiting at) c.take_flat.ensures.query c.take_flat.ensures.waiting)
          (on_err c.take_flat.result (λ h. subst (λ (q : StandingQuery). IsNext p.streams.items (query_of q) (waiting_of q)) (sym h) at) c.take_flat.ensures.err))
          (wait_each p.streams.items p.queries.items p.next_wait));
    }

use Rattle.std.proofs.Common.{◌≡◌, ◌<◌, List, length, ap, sym, subst, ◌∙◌, get_or, w64}
use Rattle.std.proofs.lemmas.Int.{to_z-of_z}
use Rattle.reference.specs.Machine.{Stream}
use Rattle.reference.specs.World.{World}
use Rattle.reference.specs.Commands.{closed_to, heartbeat_tests}
use Rattle.reference.proofs.StepLemmas.{set-change_self, stream_in, made}
use Rattle.reference.proofs.NamedLemmas.{catalog-set, names-set}
use Rattle.reference.proofs.ClosedLemmas.{closed_later}
use Rattle.reference.proofs.WaitingLemmas.{NextWait, later_wait, wait_all, wait_each}
use Rattle.reference.proofs.plain.Plain.close.Goals as goal

pub returns : goal.returns
returns c =
    let p = c.args.self.now in
    let lt : c.args.stream < length p.streams.items = stream_in (λ s. heartbeat_tests s c.args.at) p.streams.items c.args.stream c.requires in
    let streamed : List Stream → World = λ xs. made xs p.queries.items in
    let closed = simp (to_z-of_z w64 c.args.at c.ranges.at) at c.close.ensures in
    ap streamed (set-change_self (closed_to c.args.at) p.streams.items c.args.stream c.close.new.self c.index_mut.result.now lt (closed ∙ ap (closed_to c.args.at) c.index_mut.ensures.value))

pub invariant_of-self : goal.invariant_of-self
invariant_of-self c =
    let p = c.args.self.now in
    let xs = p.streams.items in
    let lt : c.args.stream < length xs = stream_in (λ s. heartbeat_tests s c.args.at) xs c.args.stream c.requires in
    let closed = simp (to_z-of_z w64 c.args.at c.ranges.at) at c.close.ensures in
    let is : c.close.new.self ≡ closed_to c.args.at (get_or xs c.args.stream c.index_mut.result.now) = closed ∙ ap (closed_to c.args.at) c.index_mut.ensures.value in
    record {
      declared =
          p.declared
          ∙ sym (catalog-set xs c.args.stream c.close.new.self c.index_mut.result.now (ap (λ (s : Stream). s.name) is) (ap (λ (s : Stream). s.columns) is));
      few = p.few;
      streams_are_named = p.streams_are_named ∙ sym (names-set xs c.args.stream c.close.new.self c.index_mut.result.now (ap (λ (s : Stream). s.name) is));
      queries_are_named = p.queries_are_named;
      next_wait =
          wait_all _ _
          (subst (λ (ss : List Stream). NextWait ss p.queries.items) (sym (set-change_self (closed_to c.args.at) xs c.args.stream c.close.new.self c.index_mut.result.now lt is))
          (later_wait xs _ (closed_later xs c.args.stream c.args.at c.requires) p.queries.items (wait_each p.streams.items p.queries.items p.next_wait)));
    }

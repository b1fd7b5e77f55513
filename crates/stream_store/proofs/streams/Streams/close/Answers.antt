use Rattle.std.proofs.Common.{◌≡◌, ◌<◌, ◌∙◌, get_or, List, Some, None, length, ap, sym, subst, refl, w64}
use Rattle.std.proofs.lemmas.Int.{to_z-of_z}
use Rattle.std.proofs.Math.Seq.{map-set_same}
use Rattle.reference.specs.Machine.{Stream}
use Rattle.reference.specs.Commands.{first_fault, heartbeat_tests, closed_to, change, Heartbeat}
use Rattle.reference.specs.Places.{machine_of}
use Rattle.reference.proofs.StepLemmas.{set-change_self, on_ok, stream_in}
use Rattle.stream_store.proofs.BesideLemmas.{kept_name, gained}
use Rattle.stream_store.proofs.streams.Streams.close.Goals as goal

pub invariant_of-self : goal.invariant_of-self
invariant_of-self c =
    let old = c.index_mut.result.now in
    let ok = simp (to_z-of_z w64 c.args.at c.ranges.at) at c.close.ensures.ok in
    c.self.invariant
    ∙ sym (map-set_same (λ (s : Stream). Some s.name) c.self.inside.streams.items c.args.stream c.close.new.self old
    (ap (λ n. Some n) (kept_name c.close.result (closed_to c.args.at) c.close.new.self old refl ok c.close.ensures.err) ∙ ap (λ (s : Stream). Some s.name) c.index_mut.ensures.value))

pub returns-clause-ok : goal.returns-clause-ok
returns-clause-ok c =
    let xs = c.self.inside.streams.items in
    let old = c.index_mut.result.now in
    let ok = simp (to_z-of_z w64 c.args.at c.ranges.at) at c.close.ensures.ok in
    let accepted = subst (λ (ys : List Stream). first_fault (machine_of ys) (Heartbeat c.args.stream c.args.at) ≡ None) (sym c.self.view_is) c.requires.accepted in
    let lt : c.args.stream < length xs = stream_in (λ s. heartbeat_tests s c.args.at) xs c.args.stream accepted in
    on_ok c.close.result
    (λ h. set-change_self (closed_to c.args.at) xs c.args.stream c.close.new.self old lt (h ∙ ap (closed_to c.args.at) c.index_mut.ensures.value)
    ∙ ap (λ (ys : List Stream). change c.args.stream (closed_to c.args.at) ys) c.self.view_is) ok

pub returns-clause-queues : goal.returns-clause-queues
returns-clause-queues c =
    let xs = c.args.self.now in
    let old = c.index_mut.result.now in
    let ok = simp (to_z-of_z w64 c.args.at c.ranges.at) at c.close.ensures.ok in
    let queues = simp (to_z-of_z w64 c.args.at c.ranges.at) at c.close.ensures.queues in
    let lt : c.args.stream < length xs = stream_in (λ s. heartbeat_tests s c.args.at) xs c.args.stream c.requires.accepted in
    gained c.close.result xs c.args.stream c.args.at old c.close.new.self lt (c.index_mut.ensures.value ∙ ap (λ (ys : List Stream). get_or ys c.args.stream old) c.self.view_is) ok queues

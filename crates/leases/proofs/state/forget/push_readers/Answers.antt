use Rattle.std.proofs.Common.{⊎_elim, inl, inr, refl}
use Rattle.leases.specs.Views.{query_of}
use Rattle.leases.proofs.ReadLemmas.{all_read, more_read, other_read}
use Rattle.leases.proofs.state.forget.push_readers.Goals as goal

pub loop-place-preserved-in-Continue-1 : goal.loop-place-preserved-in-Continue-1
loop-place-preserved-in-Continue-1 c =
    more_read c.args.stream (query_of c.args.query.now) c.args.next c.loop-place.readers.items c.push.new.self.items _ c.in-Some.window.now c.loop-place.place-iterator.b.rest.now c.next.new.self.b.rest.now
    c.in-Some.place.now c.loop-place.place-iterator.a.rest.now c.next.new.self.a.rest.now _ c.in-Some.ensures.steps.0 c.in-Some.ensures.steps.1 c.if-place-stream.true refl c.in_ok-push.ensures.items c.loop-place.invariant

pub loop-place-preserved : goal.loop-place-preserved
loop-place-preserved c =
    other_read c.args.stream (query_of c.args.query.now) c.args.next c.loop-place.readers.items c.in-Some.window.now c.loop-place.place-iterator.b.rest.now c.next.new.self.b.rest.now
    c.in-Some.place.now c.loop-place.place-iterator.a.rest.now c.next.new.self.a.rest.now _ c.in-Some.ensures.steps.0 c.in-Some.ensures.steps.1 c.if-place-stream.false c.loop-place.invariant

pub returns : goal.returns
returns c =
    all_read c.args.stream (query_of c.args.query.now) c.args.next c.loop-place.readers.items c.loop-place.place-iterator.b.rest.now c.loop-place.place-iterator.a.rest.now _
    (⊎_elim (λ s. inl s.1.0) (λ s. inr s.1.0) c.in-None.ensures.steps) c.loop-place.invariant

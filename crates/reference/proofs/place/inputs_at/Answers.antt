use Rattle.std.proofs.Common.{length-append, ◌∙◌, ap, ◌+◌, ℕ}
use Rattle.reference.specs.Machine.{input_at}
use Rattle.reference.specs.Places.{place_of}
use Rattle.reference.proofs.InputLemmas.{each-more}
use Rattle.reference.proofs.place.inputs_at.Goals as goal

pub loop-place-preserved : goal.loop-place-preserved
loop-place-preserved c = record {
  inputs =
      each-more (input_at c.args.streams.now c.args.first) place_of c.args.places.now c.loop-place.place-index _ c.push.new.self.items c.loop-place.inputs.items c.in_ok-input_at.field-0
      c.loop-place-test.true c.in_ok-push.ensures.items c.loop-place.invariant.inputs c.in_ok-input_at.ensures;
  len = rw c.in_ok-push.ensures.items (length-append c.loop-place.inputs.items _ ∙ ap (λ (n : ℕ). n + 1) c.loop-place.invariant.len);
}

use Rattle.std.proofs.Common.{◌∙◌, Bool, List, ap, arith, length, refl, sym}
use Rattle.std.specs.Prelude.{Some}
use Rattle.leases.proofs.CompactedLemmas.{keep_allowed, keep_one, keep_whole, says_through}
use Rattle.leases.proofs.state.forget.keep_rows.Goals as goal

pub loop-stream-init : goal.loop-stream-init
loop-stream-init c = λ keep says. refl

pub keep-requires : goal.keep-requires
keep-requires c =
    keep_allowed c.args.kept.now c.args.streams.now c.loop-stream.streams c.loop-stream.stream c.index-kept-stream.result c.requires c.loop-stream.invariant (omega (arith, c.loop-stream-test.true)) c.index-kept-stream.is
    ∙ ap (λ (l : List Bool). Some (length l)) (sym c.deref.ensures.value)

pub loop-stream-preserved : goal.loop-stream-preserved
loop-stream-preserved c =
    keep_one c.args.kept.now c.args.streams.now c.loop-stream.streams c.keep.new.self c.loop-stream.stream c.index-kept-stream.result c.loop-stream.invariant (omega (arith, c.loop-stream-test.true)) c.index-kept-stream.is
    (λ p say. c.keep.ensures p (says_through c.deref.result.now c.index-kept-stream.result.marks.items c.deref-in-loop-stream.result.now c.index-kept-stream.result.starts.items p _ c.deref.ensures.value c.deref-in-loop-stream.ensures.value say))

pub returns : goal.returns
returns c = keep_whole c.args.kept.now c.args.streams.now c.loop-stream.streams c.loop-stream.stream (omega (arith, c.loop-stream.auto.stream-end, c.loop-stream-test.false)) c.loop-stream.invariant

use Rattle.std.proofs.Common.{◌∙◌, Bool, List, ap, arith, length, subst, sym}
use Rattle.std.specs.Prelude.{Some}
use Rattle.stream_store.specs.Kept.{SaysKept}
use Rattle.leases.proofs.CopiedLemmas.{IsCopiedTo, copy_allowed, copy_one, copy_whole, none_copied}
use Rattle.leases.proofs.state.opening.copies_of.Goals as goal

pub loop-stream-init : goal.loop-stream-init
loop-stream-init c = subst (λ v. IsCopiedTo c.args.kept.now c.args.streams.now v 0) (sym c.in_ok-copies.ensures.items) (none_copied c.args.kept.now c.args.streams.now)

pub copy_kept-requires : goal.copy_kept-requires
copy_kept-requires c =
    copy_allowed c.args.kept.now c.args.streams.now c.loop-stream.stream c.index-kept-stream.result c.requires (omega (arith, c.loop-stream-test.true)) c.index-kept-stream.is
    ∙ ap (λ (l : List Bool). Some (length l)) (sym c.deref.ensures.value)

pub loop-stream-preserved : goal.loop-stream-preserved
loop-stream-preserved c =
    copy_one c.args.kept.now c.args.streams.now c.loop-stream.copies.items c.push.new.self.items c.in_ok-copy_kept.field-0 c.loop-stream.stream c.index-kept-stream.result c.loop-stream.invariant (omega (arith, c.loop-stream-test.true)) c.index-kept-stream.is
    (λ p s at say. c.in_ok-copy_kept.ensures p s at
    (subst (λ z. SaysKept z c.deref-in-loop-stream.result.now p s) (sym c.deref.ensures.value) (subst (λ z. SaysKept c.index-kept-stream.result.marks.items z p s) (sym c.deref-in-loop-stream.ensures.value) say)))
    c.in_ok-push.ensures.items

pub returns : goal.returns
returns c = copy_whole c.args.kept.now c.args.streams.now c.loop-stream.copies.items c.loop-stream.stream (omega (arith, c.loop-stream.auto.stream-end, c.loop-stream-test.false)) c.loop-stream.invariant

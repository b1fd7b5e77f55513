use Rattle.std.proofs.Common.{List, arith}
use Rattle.leases.specs.Forgets.{going_in}
use Rattle.leases.specs.declared.state.forget.Going.{Going}
use Rattle.leases.proofs.KeptLemmas.{going_through, markable_through, read_in, says_all, says_next, says_none}
use Rattle.leases.proofs.MarkLemmas.{markable}
use Rattle.leases.proofs.state.EngineState.kept_rows.Goals as goal

pub going_of-requires : goal.going_of-requires
going_of-requires c = markable_through c.args.self.now c.deref.result.now c.deref-2.result.now c.deref.ensures.value c.deref-2.ensures.value (markable c.args.self.now c.requires)

pub kept_of-requires : goal.kept_of-requires
kept_of-requires c = read_in c.args.self.now c.requires c.loop-stream.stream

pub loop-stream-init : goal.loop-stream-init
loop-stream-init c = says_none c.args.self.now c.in_ok-kept.kept.items c.in_ok-kept.ensures.items

pub loop-stream-preserved : goal.loop-stream-preserved
loop-stream-preserved c =
    let gs : List Going = c.deref-in-loop-stream.result.now in
    let going : going_in gs c.args.self.now.registered.items c.args.self.now.remains.items =
    going_through c.args.self.now c.in_ok-going.going.items gs c.deref.result.now c.deref-2.result.now c.deref-in-loop-stream.ensures.value c.deref.ensures.value c.deref-2.ensures.value c.in_ok-going.ensures in
    says_next c.args.self.now c.requires c.loop-stream.stream gs c.in_ok-kept_of.field-0 c.loop-stream.kept.items c.push.new.self.items going (λ t at. c.in_ok-kept_of.ensures.marks t at) c.in_ok-kept_of.ensures.starts c.in_ok-push.ensures.items
    c.loop-stream.invariant

pub returns : goal.returns
returns c = says_all c.args.self.now c.loop-stream.kept.items c.loop-stream.stream (omega (arith, c.len-stream-end.ensures, c.loop-stream.auto.stream-end, c.loop-stream-test.false)) c.loop-stream.invariant

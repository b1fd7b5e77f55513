use Rattle.std.proofs.Common.{◌<◌, arith, length, w64}
use Rattle.std.proofs.lemmas.Int.{fits_signed_from_abs, to_z_pos}
use Rattle.reference.proofs.InputLemmas.{front-more, signed-at}
use Rattle.reference.proofs.standing.looks.flat_front.Goals as goal

pub overflow_cast-answer : goal.overflow_cast-answer
overflow_cast-answer c =
    let es = c.args.waiting.now.items in
    let lt : c.loop-i.i < length es = omega (arith, c.loop-i-test.true, c.requires.enough, c.args.waiting.now.ok) in
    fits_signed_from_abs w64 _ (signed-at c.loop-i.i es c.index-answer.result.now lt c.index-answer.ensures c.requires.instants)

pub loop-i-preserved : goal.loop-i-preserved
loop-i-preserved c =
    let es = c.args.waiting.now.items in
    let lt : c.loop-i.i < length es = omega (arith, c.loop-i-test.true, c.requires.enough, c.args.waiting.now.ok) in
    let early = signed-at c.loop-i.i es c.index-answer.result.now lt c.index-answer.ensures c.requires.instants in
    front-more c.loop-i.i es c.index-answer.result.now c.loop-i.rows c.push.new.self lt c.index-answer.ensures c.loop-i.invariant
    (rw (c.as_slice.ensures.value, to_z_pos w64 c.index-answer.result.now.0 early) at c.in_ok-push.ensures.ok)

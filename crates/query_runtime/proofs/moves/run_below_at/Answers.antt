use Rattle.std.proofs.Common.{◌<◌, ◌≡◌, ◌∙◌, ap, arith, length, sym}
use Rattle.query_runtime.proofs.MoveLemmas.{pair_stopped}
use Rattle.query_runtime.proofs.moves.run_below_at.Goals as goal

pub returns-clause-err : goal.returns-clause-err
returns-clause-err c =
    let items = c.args.operators.now.items in
    let below = c.split_at_mut-below.result.0.now in
    let above = c.split_at_mut-below.result.1.now in
    let many : c.args.operators.now.len ≡ length items = sym c.deref_mut.ensures.len ∙ ap length c.deref_mut.ensures.value in
    let some : 0 < length above = omega (arith, c.split_at_mut-below.ensures.back_len, ap length c.deref_mut.ensures.value, c.requires.above) in
    pair_stopped items below above c.args.operators.now.len c.args.number c.args.wire.to c.run_below.new.self c.run_below.new.to c.index-below-number.result c.index-above-0.result c.requires.later c.split_at_mut-below.ensures.front_len some
    (sym c.deref_mut.ensures.value ∙ c.split_at_mut-below.ensures.value) many c.args.log.now c.args.side c.args.wire.side c.args.rows c.run_below.result c.run_below.ensures.err

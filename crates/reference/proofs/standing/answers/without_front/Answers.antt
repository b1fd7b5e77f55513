use Rattle.std.proofs.Common.{◌≡◌, length, min, arith, ◌∙◌, ap}
use Rattle.reference.proofs.InputLemmas.{dropped-least, signed-drop}
use Rattle.reference.specs.Inputs.{are_signed}
use Rattle.reference.proofs.standing.answers.without_front.Goals as goal

pub returns-clause-items : goal.returns-clause-items
returns-clause-items c =
    let least : c.loop.counter ≡ min (length c.args.answers.items) c.args.count
    = omega (arith, c.min-known.ensures, c.len.ensures, c.from_vec-waiting.ensures.len, c.args.answers.ok.0) in
    dropped-least c.loop.counter c.args.count c.args.answers.items c.loop.waiting.items (rw c.from_vec-waiting.ensures.items at c.loop.invariant.items) least

pub returns-clause-instants : goal.returns-clause-instants
returns-clause-instants c =
    let least : c.loop.counter ≡ min (length c.args.answers.items) c.args.count
    = omega (arith, c.min-known.ensures, c.len.ensures, c.from_vec-waiting.ensures.len, c.args.answers.ok.0) in
    ap are_signed (dropped-least c.loop.counter c.args.count c.args.answers.items c.loop.waiting.items (rw c.from_vec-waiting.ensures.items at c.loop.invariant.items) least)
    ∙ signed-drop c.args.count _ c.requires

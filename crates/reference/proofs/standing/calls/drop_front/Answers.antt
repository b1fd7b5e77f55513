use Rattle.std.proofs.Common.{◌≡◌, ◌∙◌, ap, arith, drop, ℕ}
use Rattle.reference.specs.Inputs.{are_signed}
use Rattle.reference.specs.Views.{pairs_of}
use Rattle.reference.proofs.InputLemmas.{pairs-drop, signed-drop}
use Rattle.reference.proofs.standing.calls.drop_front.Goals as goal

pub returns-clause-waiting : goal.returns-clause-waiting
returns-clause-waiting c =
    let all : c.loop.counter ≡ c.args.count = omega arith in
    ap pairs_of c.loop.invariant.items ∙ pairs-drop c.loop.counter c.args.waiting.now.items
    ∙ ap (λ (n : ℕ). drop n (pairs_of c.args.waiting.now.items)) all

pub returns-clause-instants_stay : goal.returns-clause-instants_stay
returns-clause-instants_stay c =
    ap are_signed (ap pairs_of c.loop.invariant.items ∙ pairs-drop c.loop.counter c.args.waiting.now.items)
    ∙ signed-drop c.loop.counter (pairs_of c.args.waiting.now.items) c.requires.instants

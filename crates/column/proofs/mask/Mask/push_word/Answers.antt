use Rattle.std.proofs.Common.{arith, ap, ◌∙◌, ◌+◌, ◌≡◌, ◌++◌, ◌%◌, ◌∷◌, []}
use Rattle.column.specs.Bits.{bits}
use Rattle.column.proofs.BitLemmas.{bits_pushed, clear_pushed, length-seen}
use Rattle.column.proofs.mask.Mask.push_word.Goals as goal

pub invariant_of-self-2 : goal.invariant_of-self-2
invariant_of-self-2 c =
    let whole : c.self.inside.len % 64 ≡ 0 = omega (arith, c.requires.whole, length-seen _ _ _ c.self.view_is) in
    rw c.in_ok-push.ensures.ok
    (clear_pushed c.self.inside.words c.self.inside.len c.args.count c.args.word c.self.invariant.0 whole c.requires.clear, omega (arith, c.requires.few, length-seen _ _ _ c.self.view_is))

pub returns-clause-ok : goal.returns-clause-ok
returns-clause-ok c =
    let whole : c.self.inside.len % 64 ≡ 0 = omega (arith, c.requires.whole, length-seen _ _ _ c.self.view_is) in
    ap (bits (c.self.inside.len + c.args.count)) c.in_ok-push.ensures.ok
    ∙ bits_pushed c.self.inside.words c.self.inside.len c.args.count c.args.word c.self.invariant.0 whole c.requires.clear
    ∙ ap (λ l. l ++ bits c.args.count (c.args.word ∷ [])) c.self.view_is

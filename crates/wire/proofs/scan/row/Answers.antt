use Rattle.std.proofs.Common.{◌≡◌, ap, ◌∙◌, ◌∷◌, to_z, of_z, w64}
use Rattle.wire.specs.Usual.{IsShort}
use Rattle.wire.proofs.Scanning.{in_word, row_ends}
use Rattle.wire.proofs.scan.row.Goals as goal

pub returns-in-Some-eq93-default : goal.returns-in-Some-eq93-default
returns-in-Some-eq93-default c =
    let at = to_z w64 (of_z w64 c.in-Some.at) in
    let short : IsShort c.in-Some.at = c.in-Some.ensures.1 in
    let within : IsShort at = rw (in_word c.in-Some.at short) short in
    let behind = c.in-Some-eq93-default.behind.now in
    let ends : c.values.rest.now ≡ 93 ∷ behind = c.in-Some-eq93-default.ensures.cases.0 ∙ ap (λ b. b ∷ behind) c.in-Some-eq93-default.field-0-0-test in
    let kept = c.values.invariant in
    (row_ends c.args.text.now c.values.rest.now behind at c.values.values.items kept.0 ends, (within, kept.1))

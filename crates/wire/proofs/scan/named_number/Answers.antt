use Rattle.std.proofs.Common.{◌≡◌, ◌++◌, codes, ap, sym, ◌∙◌}
use Rattle.std.specs.Fmt.{signed_decimal}
use Rattle.wire.proofs.Scanning.{in_word, same_bytes, number_line}
use Rattle.wire.proofs.scan.named_number.Goals as goal

pub returns-clause-text : goal.returns-clause-text
returns-clause-text c =
    let front = c.args.front.now in
    let name = c.in-Some-name.name.now in
    let middle = c.args.middle.now in
    let read = c.in-Some-number.ensures in
    let last : c.in-Some-number.text.now ≡ codes "}" = same_bytes _ _ c.if-ne.ensures ∙ c.as_slice.ensures in
    number_line c.args.line.now _ _ _ _ front name middle _ c.in-Some.ensures c.in-Some-name.ensures.text c.in-Some-behind.ensures read.0 last
    ∙ ap (λ z. front ++ name ++ middle ++ signed_decimal z ++ codes "}") (sym (in_word c.in-Some-number.number read.1))

use Rattle.std.proofs.Common.{ap₂, sym, ◌∙◌, Ok}
use Rattle.reference.specs.Looks.{peek_rows}
use Rattle.wire.specs.Calls.{look}
use Rattle.wire.proofs.UsualLines.{peek_is_read}
use Rattle.wire.proofs.Scanning.{in_word}
use Rattle.wire.proofs.scan.usual_peek.Goals as goal

pub returns : goal.returns
returns c =
    let found = c.in-Some.ensures in
    peek_is_read c.args.line.now c.in-Some.query.now c.in-Some.limit found.text found.plain.1 found.plain.0 found.short
    ∙ ap₂ (λ n z. Ok (look (peek_rows n z))) (sym c.in_ok-query.ensures.ok) (sym (in_word c.in-Some.limit found.short))

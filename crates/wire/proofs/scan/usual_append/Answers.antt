use Rattle.std.proofs.Common.{◌≡◌, codes, ap, sym, ◌∙◌, Ok}
use Rattle.wire.specs.Calls.{append}
use Rattle.wire.proofs.UsualLines.{append_is_read}
use Rattle.wire.proofs.Scanning.{same_bytes, whole_line}
use Rattle.wire.proofs.scan.usual_append.Goals as goal

pub returns : goal.returns
returns c =
    let line = c.args.line.now in
    let rows = c.in-Some-2.rows in
    let name = c.in-Some-name.stream.now in
    let plain = c.in-Some-name.ensures.plain in
    let listed = rw c.in-Some-2.is at c.in_ok-rows.ensures in
    let last : c.in-Some-2.text.now ≡ codes "}" = same_bytes _ _ c.if-ne.ensures ∙ c.as_slice.ensures in
    let is = whole_line line _ name _ _ _ rows c.in-Some.ensures c.in-Some-name.ensures.text c.in-Some-behind.ensures listed.0 last in
    append_is_read line name rows is plain.1 plain.0 listed.1 ∙ ap (λ n. Ok (append n rows)) (sym c.in_ok-stream.ensures.ok)

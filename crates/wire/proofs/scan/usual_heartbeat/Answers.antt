use Rattle.std.proofs.Common.{ap₂, sym, ◌∙◌, Ok}
use Rattle.wire.specs.Calls.{heartbeat}
use Rattle.wire.proofs.UsualLines.{heartbeat_is_read}
use Rattle.wire.proofs.Scanning.{in_word}
use Rattle.wire.proofs.scan.usual_heartbeat.Goals as goal

pub returns : goal.returns
returns c =
    let found = c.in-Some.ensures in
    heartbeat_is_read c.args.line.now c.in-Some.stream.now c.in-Some.at found.text found.plain.1 found.plain.0 found.short
    ∙ ap₂ (λ n z. Ok (heartbeat n z)) (sym c.in_ok-stream.ensures.ok) (sym (in_word c.in-Some.at found.short))

use Rattle.std.proofs.Common.{◌++◌, ◌∙◌, ap, sym}
use Rattle.reference.specs.FaultTexts.{fault_text, fault_name, place_text}
use Rattle.wire.specs.Printed.{line_of, answer_of, error_line}
use Rattle.wire.proofs.Printing.{write_text}
use Rattle.wire.proofs.reply.add_reply.Goals as goal

pub returns-in-Done : goal.returns-in-Done
unfolding line_of
returns-in-Done g c = write_text (line_of (answer_of c.args.reply.now)) (sym (ap (λ r. line_of (answer_of r)) c.in-Done.is)) c.add.ensures

pub returns-in-Refused : goal.returns-in-Refused
unfolding line_of fault_text
returns-in-Refused g c =
    write_text (line_of (answer_of c.args.reply.now))
    (ap (λ n. error_line (n ++ place_text c.place.result)) c.name.ensures ∙ ap (λ p. error_line (fault_name c.in-Refused.fault ++ place_text p)) c.place.ensures ∙ sym (ap (λ r. line_of (answer_of r)) c.in-Refused.is))
    c.add_error.ensures

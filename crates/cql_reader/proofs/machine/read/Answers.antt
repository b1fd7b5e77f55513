use Rattle.std.proofs.Common.{◌∙◌, sym, ap, subst, arith, Result, Ok}
use Rattle.std.proofs.lemmas.Result.{err_from_is_err_and}
use Rattle.cql_reader.specs.Fault.{Fault}
use Rattle.cql_reader.specs.Query.{Query}
use Rattle.cql_reader.proofs.WellFormed.{well_formed}
use Rattle.cql_reader.specs.Scanning.{scan_from}
use Rattle.cql_reader.specs.Prediction.{parsed}
use Rattle.cql_reader.specs.Coded.{Tells}
use Rattle.cql_reader.specs.Judging.{judged, reading}
use Rattle.cql_reader.proofs.Readings.{told_judged, reading_long, reading_not_ascii, reading_fine}
use Rattle.cql_reader.proofs.machine.read.Goals as goal

pub returns-then-text-gt-MAX_TEXT-clause-reading : goal.returns-then-text-gt-MAX_TEXT-clause-reading
returns-then-text-gt-MAX_TEXT-clause-reading c = reading_long c.args.text.now (omega arith)

pub returns-then-not-is_ascii-clause-reading : goal.returns-then-not-is_ascii-clause-reading
returns-then-not-is_ascii-clause-reading c = reading_not_ascii c.args.text.now (omega arith) (sym c.if-not-is_ascii.ensures)

pub returns-in_err-draft-clause-reading : goal.returns-in_err-draft-clause-reading
returns-in_err-draft-clause-reading c =
    let text = c.args.text.now in
    let e = reading_fine text (omega arith) (sym c.if-not-is_ascii.ensures) in
    let t = told_judged (parsed (scan_from text 0)) _ c.in_err-draft.ensures in
    let f : Tells (reading text) c.in_err-draft.field-0.0 = subst (λ (v : Result Query Fault). Tells v c.in_err-draft.field-0.0) (sym e) t in
    let p = err_from_is_err_and c.from_residual.result c.from_residual.ensures.1 in
    rw (p.1, p.2) f

pub returns-clause-reading : goal.returns-clause-reading
returns-clause-reading c =
    let text = c.args.text.now in
    reading_fine text (omega arith) (sym c.if-not-is_ascii.ensures) ∙ ap judged c.in_ok-draft.ensures ∙ ap Ok (sym c.into_query.ensures)

pub returns-clause-well_formed : goal.returns-clause-well_formed
returns-clause-well_formed c =
    let text = c.args.text.now in
    well_formed text _
    (reading_fine text (omega arith) (sym c.if-not-is_ascii.ensures) ∙ ap judged c.in_ok-draft.ensures ∙ ap Ok (sym c.into_query.ensures))

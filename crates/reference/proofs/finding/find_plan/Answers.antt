use Rattle.cql_reader.specs.Views.{query_of}
use Rattle.reference.proofs.WidthLemmas.{found_widths}
use Rattle.cql_reader.specs.Judging.{reading}
use Rattle.std.specs.Option.{option_copied}
use Rattle.plan.specs.Chart.{given_by}
use Rattle.reference.proofs.finding.find_plan.Goals as goal

pub returns-in-Err-clause-finds : goal.returns-in-Err-clause-finds
returns-in-Err-clause-finds c =
    c.text_fault.ensures c.args.catalog.now (given_by (option_copied c.args.chart)) (reading c.args.text.now) (rw c.as_bytes.ensures.value at c.in-Err.ensures.reading)

pub returns-in-Ok-clause-widths : goal.returns-in-Ok-clause-widths
returns-in-Ok-clause-widths c =
    found_widths c.plan_over.result c.args.text.now c.args.catalog.now (query_of c.in-Ok.query) (rw c.as_bytes.ensures.value at c.in-Ok.ensures.reading) c.plan_over.ensures.widths

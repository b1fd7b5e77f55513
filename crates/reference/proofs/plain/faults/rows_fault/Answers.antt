use Rattle.std.proofs.Common.{map}
use Rattle.reference.specs.Standing.{query_of}
use Rattle.reference.proofs.StreamLemmas.{passed_rows, refused_rows}
use Rattle.reference.proofs.plain.faults.rows_fault.Goals as goal

pub returns-in-Some-clause-first : goal.returns-in-Some-clause-first
returns-in-Some-clause-first c = refused_rows (map query_of c.args.queries.now) c.args.number c.args.rows.now c.args.stream.now c.in-Some.fault c.in-Some.ensures.first

pub returns-in-None-clause-first : goal.returns-in-None-clause-first
returns-in-None-clause-first c =
    passed_rows (map query_of c.args.queries.now) c.args.number c.with_rows.result c.args.rows.now c.args.stream.now c.is_crowded.result c.crowd_fault.result c.in-None.ensures.first c.with_rows.ensures c.is_crowded.ensures c.crowd_fault.ensures.first

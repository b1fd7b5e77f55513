use Rattle.std.proofs.Common.{◌∙◌, ap}
use Rattle.cql_reader.specs.Views.{reference_of}
use Rattle.names.specs.Views.{merged}
use Rattle.names.proofs.Founds.{find_step}
use Rattle.names.proofs.matching.find.Goals as goal

pub loop-i-preserved : goal.loop-i-preserved
loop-i-preserved c =
    find_step c.loop-i.found c.merge-found.result c.loop-i.i c.args.tables.now (reference_of c.args.reference.now) c.index-tables-i.result c.loop-i-test.true c.index-tables-i.is
    (c.merge-found.ensures ∙ ap (merged c.loop-i.found) c.find_at.ensures) ∙ c.loop-i.invariant

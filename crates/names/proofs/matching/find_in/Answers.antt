use Rattle.std.proofs.Common.{◌∙◌, ap}
use Rattle.names.specs.Views.{merged}
use Rattle.names.proofs.Founds.{find_in_step}
use Rattle.cql_reader.specs.Names.{name_of}
use Rattle.names.proofs.matching.find_in.Goals as goal

pub loop-i-preserved : goal.loop-i-preserved
loop-i-preserved c =
    find_in_step c.loop-i.found c.merge-found.result c.args.source c.loop-i.i c.args.columns.now (name_of c.args.name.now) c.index-columns-i.result c.loop-i-test.true c.index-columns-i.is
    (c.merge-found.ensures ∙ ap (merged c.loop-i.found) c.find_there.ensures) ∙ c.loop-i.invariant

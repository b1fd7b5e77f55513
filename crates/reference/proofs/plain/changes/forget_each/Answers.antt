use Rattle.std.proofs.Common.{◌∙◌}
use Rattle.std.proofs.Math.Seq.{map-set_same}
use Rattle.reference.specs.Standing.{query_of, waiting_of, upto_of}
use Rattle.reference.proofs.plain.changes.forget_each.Goals as goal

pub loop-i-preserved : goal.loop-i-preserved
loop-i-preserved c = record {
  queries = map-set_same query_of c.loop-i.queries c.loop-i.i c.forget_fresh.new.self c.index-queries-i.result c.forget_fresh.ensures.query ∙ c.loop-i.invariant.queries;
  waiting = map-set_same waiting_of c.loop-i.queries c.loop-i.i c.forget_fresh.new.self c.index-queries-i.result c.forget_fresh.ensures.waiting ∙ c.loop-i.invariant.waiting;
  upto = map-set_same upto_of c.loop-i.queries c.loop-i.i c.forget_fresh.new.self c.index-queries-i.result c.forget_fresh.ensures.upto ∙ c.loop-i.invariant.upto;
}

use Rattle.std.proofs.Common.{◌<◌, length, ◌∙◌, arith}
use Rattle.std.proofs.Math.Seq.{map-set_same}
use Rattle.reference.specs.World.{untaken}
use Rattle.reference.specs.Places.{machine_of}
use Rattle.reference.specs.Standing.{query_of, waiting_of, upto_of}
use Rattle.reference.proofs.StepLemmas.{evaluated}
use Rattle.reference.proofs.plain.changes.evaluate_each.Goals as goal

pub returns-in_err-evaluate-clause-queries : goal.returns-in_err-evaluate-clause-queries
returns-in_err-evaluate-clause-queries c =
    map-set_same query_of c.loop-i.queries c.loop-i.i c.evaluate.new.self c.index-queries-i.result c.evaluate.ensures.query ∙ c.loop-i.invariant.queries

pub returns-in_err-evaluate-clause-waiting : goal.returns-in_err-evaluate-clause-waiting
returns-in_err-evaluate-clause-waiting c =
    map-set_same waiting_of c.loop-i.queries c.loop-i.i c.evaluate.new.self c.index-queries-i.result c.evaluate.ensures.waiting ∙ c.loop-i.invariant.waiting

pub returns-in_err-evaluate-clause-upto : goal.returns-in_err-evaluate-clause-upto
returns-in_err-evaluate-clause-upto c =
    map-set_same upto_of c.loop-i.queries c.loop-i.i c.evaluate.new.self c.index-queries-i.result c.evaluate.ensures.upto ∙ c.loop-i.invariant.upto

pub loop-i-preserved : goal.loop-i-preserved
loop-i-preserved c =
    let old = c.index-queries-i.result in
    let lt : c.loop-i.i < length c.loop-i.queries = omega arith in
    let same = c.evaluate.ensures.query in
    record {
      queries = map-set_same query_of c.loop-i.queries c.loop-i.i c.evaluate.new.self old same ∙ c.loop-i.invariant.queries;
      waiting = map-set_same waiting_of c.loop-i.queries c.loop-i.i c.evaluate.new.self old c.evaluate.ensures.waiting ∙ c.loop-i.invariant.waiting;
      upto = map-set_same upto_of c.loop-i.queries c.loop-i.i c.evaluate.new.self old c.evaluate.ensures.upto ∙ c.loop-i.invariant.upto;
      fresh =
          evaluated (untaken (machine_of c.args.streams.now)) c.loop-i.queries c.loop-i.i c.evaluate.new.self old lt same
          c.in_ok-evaluate.ensures.fresh c.loop-i.invariant.fresh;
    }

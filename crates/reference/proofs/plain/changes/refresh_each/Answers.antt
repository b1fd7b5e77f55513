use Rattle.std.proofs.Common.{◌<◌, length, ◌∙◌, arith, add-one}
use Rattle.std.proofs.Math.Seq.{map-set_same}
use Rattle.reference.specs.Machine.{ends_at}
use Rattle.reference.specs.Places.{machine_of}
use Rattle.reference.specs.Standing.{query_of}
use Rattle.reference.proofs.StepLemmas.{reached, refreshed}
use Rattle.reference.proofs.plain.changes.refresh_each.Goals as goal

pub loop-i-preserved : goal.loop-i-preserved
loop-i-preserved c =
    let old = c.index-queries-i.result in
    let lt : c.loop-i.i < length c.loop-i.queries = omega arith in
    let more = refreshed c.loop-i.queries c.args.queries.now c.loop-i.i c.refresh.new.self old lt c.refresh.ensures.waiting c.loop-i.invariant.waiting c.loop-i.invariant.rest in
    let further = reached (ends_at (machine_of c.args.streams.now)) c.loop-i.queries c.args.queries.now c.loop-i.i c.refresh.new.self old lt c.refresh.ensures.upto c.loop-i.invariant.upto c.loop-i.invariant.rest in
    record {
      queries = map-set_same query_of c.loop-i.queries c.loop-i.i c.refresh.new.self old c.refresh.ensures.query ∙ c.loop-i.invariant.queries;
      waiting = rw add-one more.0;
      upto = rw add-one further;
      rest = rw add-one more.1;
    }

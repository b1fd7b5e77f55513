use Rattle.std.proofs.Common.{◌≡◌, take, map}
use Rattle.reference.specs.World.{untaken}
use Rattle.reference.specs.Places.{machine_of}
use Rattle.reference.specs.Standing.{query_of, waiting_of, upto_of, fresh_of}
use Rattle.reference.proofs.plain.changes.evaluate_each.Given as goal

abbrev pub invariant-loop-i : goal.invariant-loop-i
invariant-loop-i l = record {
  queries : map query_of l.queries ≡ map query_of l.initial.queries;
  waiting : map waiting_of l.queries ≡ map waiting_of l.initial.queries;
  upto : map upto_of l.queries ≡ map upto_of l.initial.queries;
  fresh : map fresh_of (take l.i l.queries) ≡ map (untaken (machine_of l.streams)) (map query_of (take l.i l.queries));
}

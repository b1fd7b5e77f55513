use Rattle.std.proofs.Common.{◌≡◌, take, drop, map}
use Rattle.reference.specs.Machine.{ends_at}
use Rattle.reference.specs.Places.{machine_of}
use Rattle.reference.specs.Standing.{query_of, waiting_of, upto_of, fresh_of}
use Rattle.reference.proofs.plain.changes.refresh_each.Given as goal

abbrev pub invariant-loop-i : goal.invariant-loop-i
invariant-loop-i l = record {
  queries : map query_of l.queries ≡ map query_of l.initial.queries;
  waiting : map waiting_of (take l.i l.queries) ≡ map fresh_of (take l.i l.initial.queries);
  upto : map upto_of (take l.i l.queries) ≡ map (ends_at (machine_of l.streams)) (map query_of (take l.i l.initial.queries));
  rest : drop l.i l.queries ≡ drop l.i l.initial.queries;
}

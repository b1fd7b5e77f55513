use Rattle.std.proofs.Common.{reverse}
use Rattle.cql_reader.specs.Coded.{IsInside, rest_of}
use Rattle.cql_reader.specs.Prediction.{parsed}
use Rattle.cql_reader.specs.Scanning.{scan_from}
use Rattle.cql_reader.specs.Coded.{draft_of}
use Rattle.cql_reader.proofs.Runs.{Runs, left}
use Rattle.cql_reader.proofs.machine.parse.Given as goal

abbrev pub invariant-loop-symbol : goal.invariant-loop-symbol
invariant-loop-symbol l = record {
  inside : IsInside l.text l.next;
  runs : Runs (reverse l.stack.items) (draft_of l.draft) (rest_of l.text l.next) (parsed (scan_from l.text 0));
}

abbrev pub decreases-loop-symbol : goal.decreases-loop-symbol
decreases-loop-symbol l = left (reverse l.stack.items) (rest_of l.text l.next)

use Rattle.std.proofs.Common.{◌≡◌, ◌≤◌, drop, min}
use Rattle.cql_reader.specs.Lexis.{decimal}
use Rattle.cql_reader.proofs.numbers.magnitude_of.Given as goal

abbrev pub invariant-loop-digit : goal.invariant-loop-digit
invariant-loop-digit l = record {
  small : l.value ≤ 2199023255552;
  so_far : min (decimal l.value (drop l.digit-index l.digits)) 2199023255552 ≡ min (decimal 0 l.digits) 2199023255552;
}

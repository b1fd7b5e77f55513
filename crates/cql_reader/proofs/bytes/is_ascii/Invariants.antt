use Rattle.std.proofs.Common.{◌≡◌, drop}
use Rattle.cql_reader.specs.Scanning.{all_ascii}
use Rattle.cql_reader.proofs.bytes.is_ascii.Given as goal

abbrev pub invariant-loop-byte : goal.invariant-loop-byte
invariant-loop-byte l = all_ascii (drop l.byte-index l.bytes) ≡ all_ascii l.bytes

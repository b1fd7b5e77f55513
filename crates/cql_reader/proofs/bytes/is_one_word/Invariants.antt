use Rattle.std.proofs.Common.{◌≡◌, drop}
use Rattle.cql_reader.specs.Lexis.{all_word}
use Rattle.cql_reader.proofs.bytes.is_one_word.Given as goal

abbrev pub invariant-loop-byte : goal.invariant-loop-byte
invariant-loop-byte l = all_word (drop l.byte-index l.bytes) ≡ all_word l.bytes

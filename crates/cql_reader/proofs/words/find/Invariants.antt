use Rattle.std.proofs.Common.{◌≡◌, drop, map}
use Rattle.cql_reader.specs.Lexis.{kind_in}
use Rattle.cql_reader.proofs.words.find.Given as goal

abbrev pub invariant-loop-text : goal.invariant-loop-text
invariant-loop-text l = kind_in (map (λ entry. (entry.0.now, entry.1)) (drop l.text-index l.entries)) l.word ≡ kind_in (map (λ entry. (entry.0.now, entry.1)) l.entries) l.word

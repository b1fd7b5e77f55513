use Rattle.std.proofs.Common.{sym, arith}
use Rattle.std.proofs.lemmas.List.Sums.{prefix_len_is}
use Rattle.cql_reader.specs.Lexis.{is_word}
use Rattle.cql_reader.proofs.bytes.word_len.Goals as goal

pub returns-then-not-word_byte-clause-len : goal.returns-then-not-word_byte-clause-len
returns-then-not-word_byte-clause-len c = sym (prefix_len_is is_word c.args.bytes.now c.loop-i.i 0 (omega arith) c.loop-i.invariant (λ _. sym c.if-not-word_byte.ensures))

pub returns-clause-len : goal.returns-clause-len
returns-clause-len c = sym (prefix_len_is is_word c.args.bytes.now _ 0 (omega arith) (λ k h. c.loop-i.invariant k (omega arith)) (λ h. absurd (omega arith)))

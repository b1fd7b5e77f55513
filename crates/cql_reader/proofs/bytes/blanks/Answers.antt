use Rattle.std.proofs.Common.{sym, arith}
use Rattle.std.proofs.lemmas.List.Sums.{prefix_len_is}
use Rattle.cql_reader.specs.Lexis.{is_blank}
use Rattle.cql_reader.proofs.bytes.blanks.Goals as goal

pub returns-then-not-blank-clause-len : goal.returns-then-not-blank-clause-len
returns-then-not-blank-clause-len c = sym (prefix_len_is is_blank c.args.bytes.now c.loop-i.i 0 (omega arith) c.loop-i.invariant (λ _. sym c.if-not-blank.ensures))

pub returns-clause-len : goal.returns-clause-len
returns-clause-len c = sym (prefix_len_is is_blank c.args.bytes.now _ 0 (omega arith) (λ k h. c.loop-i.invariant k (omega arith)) (λ h. absurd (omega arith)))

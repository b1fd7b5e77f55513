use Rattle.std.proofs.Common.{sym, ◌∙◌}
use Rattle.std.proofs.lemmas.Bool.{and_left}
use Rattle.cql_reader.proofs.Steps.{ends_at_read, ends_at_rule, ends_at_emit, ends_end, true_and}
use Rattle.cql_reader.proofs.choice.may_be_empty.Goals as goal
use Rattle.cql_reader.proofs.choice.may_be_empty.Goals.{in-Rule+else-not-may_be_missing, in-Emit}

pub returns-in-Read : goal.returns-in-Read
returns-in-Read c =
    sym (ends_at_read c.args.symbols.now c.loop-symbol.symbol-index _ _ c.loop-symbol-test.true c.in-Read.is) ∙ c.loop-symbol.invariant

pub returns-then-not-may_be_missing : goal.returns-then-not-may_be_missing
returns-then-not-may_be_missing c =
    sym (and_left _ _ (sym c.if-not-may_be_missing.ensures)) ∙ sym (ends_at_rule c.args.symbols.now c.loop-symbol.symbol-index _ _ c.loop-symbol-test.true c.in-Rule.is) ∙ c.loop-symbol.invariant

pub loop-symbol-preserved : goal.loop-symbol-preserved
loop-symbol-preserved c =
    elim c.match-symbol.branch [
      | in-Rule+else-not-may_be_missing w ↦ sym (true_and _ _ (sym w.if-not-may_be_missing.ensures)) ∙ sym (ends_at_rule c.args.symbols.now c.loop-symbol.symbol-index _ _ c.loop-symbol-test.true w.in-Rule.is) ∙ c.loop-symbol.invariant
      | in-Emit w ↦ sym (ends_at_emit c.args.symbols.now c.loop-symbol.symbol-index _ _ c.loop-symbol-test.true w.in-Emit.is) ∙ c.loop-symbol.invariant
    ]

pub returns : goal.returns
returns c = sym (ends_end c.args.symbols.now c.loop-symbol.symbol-index c.loop-symbol-test.false) ∙ c.loop-symbol.invariant

use Rattle.std.proofs.Common.{◌≡◌, true, false, sym, ap, ◌∙◌}
use Rattle.std.proofs.lemmas.Bool.{and_left, or_left, or_from}
use Rattle.cql_reader.proofs.Steps.{firsts_at_read, firsts_at_rule, firsts_at_emit, firsts_end, true_and, false_or}
use Rattle.cql_reader.specs.Prediction.{has, first, nullable, same_kind}
use Rattle.cql_reader.specs.declared.tokens.TokenKind.{TokenKind}
use Rattle.cql_reader.proofs.choice.begins.Goals as goal
use Rattle.cql_reader.proofs.choice.begins.Goals.{in-Rule+else-has_kind+else-not-may_be_missing, in-Emit}

pub returns-in-Read : goal.returns-in-Read
returns-in-Read c =
    c.eq.ensures ∙ ap (λ (k : TokenKind). same_kind k c.args.kind) c.kind_of_role.ensures ∙ sym (firsts_at_read c.args.symbols.now c.args.kind c.loop-symbol.symbol-index _ _ c.loop-symbol-test.true c.in-Read.is) ∙ c.loop-symbol.invariant

pub returns-then-has_kind : goal.returns-then-has_kind
returns-then-has_kind c =
    let h : has (first c.in-Rule.part) c.args.kind ≡ true = cc in
    sym (or_left _ _ h) ∙ sym (firsts_at_rule c.args.symbols.now c.args.kind c.loop-symbol.symbol-index _ _ c.loop-symbol-test.true c.in-Rule.is) ∙ c.loop-symbol.invariant

pub returns-then-not-may_be_missing : goal.returns-then-not-may_be_missing
returns-then-not-may_be_missing c =
    let h : has (first c.in-Rule.part) c.args.kind ≡ false = cc in
    sym (or_from _ _ h (and_left _ _ (sym c.if-not-may_be_missing.ensures))) ∙ sym (firsts_at_rule c.args.symbols.now c.args.kind c.loop-symbol.symbol-index _ _ c.loop-symbol-test.true c.in-Rule.is) ∙ c.loop-symbol.invariant

pub loop-symbol-preserved : goal.loop-symbol-preserved
loop-symbol-preserved c =
    elim c.match-symbol.branch [
      | in-Rule+else-has_kind+else-not-may_be_missing w ↦
          (let h : has (first w.in-Rule.part) c.args.kind ≡ false = cc in
          let n : nullable w.in-Rule.part ≡ true = cc in
          sym (false_or _ _ h ∙ true_and _ _ n) ∙ sym (firsts_at_rule c.args.symbols.now c.args.kind c.loop-symbol.symbol-index _ _ c.loop-symbol-test.true w.in-Rule.is) ∙ c.loop-symbol.invariant)
      | in-Emit w ↦ sym (firsts_at_emit c.args.symbols.now c.args.kind c.loop-symbol.symbol-index _ _ c.loop-symbol-test.true w.in-Emit.is) ∙ c.loop-symbol.invariant
    ]

pub returns : goal.returns
returns c = sym (firsts_end c.args.symbols.now c.args.kind c.loop-symbol.symbol-index c.loop-symbol-test.false) ∙ c.loop-symbol.invariant

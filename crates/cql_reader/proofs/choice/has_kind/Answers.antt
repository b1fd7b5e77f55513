use Rattle.std.proofs.Common.{sym, ◌∙◌}
use Rattle.std.proofs.lemmas.Bool.{or_left}
use Rattle.cql_reader.proofs.Steps.{has_step, has_end, false_or}
use Rattle.cql_reader.proofs.choice.has_kind.Goals as goal

pub returns-then-eq : goal.returns-then-eq
returns-then-eq c =
    let s = has_step c.args.kinds.now c.args.kind c.loop-own.own-index _ c.loop-own-test.true in
    sym (or_left _ _ (sym c.if-eq.ensures)) ∙ sym s ∙ c.loop-own.invariant

pub loop-own-preserved : goal.loop-own-preserved
loop-own-preserved c =
    let s = has_step c.args.kinds.now c.args.kind c.loop-own.own-index _ c.loop-own-test.true in
    sym (false_or _ _ (sym c.if-eq.ensures)) ∙ sym s ∙ c.loop-own.invariant

pub returns : goal.returns
returns c = sym (has_end c.args.kinds.now c.args.kind c.loop-own.own-index c.loop-own-test.false) ∙ c.loop-own.invariant

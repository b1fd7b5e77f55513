use Rattle.std.proofs.Common.{◌≤◌, ◌+◌, arith, eqb, length, refl, sym, ◌∙◌}
use Rattle.wire.proofs.Windows.{clear_on}
use Rattle.wire.proofs.lines.clear_front.Goals as goal

pub loop-clear-preserved : goal.loop-clear-preserved
loop-clear-preserved c =
    let within : c.loop-clear.clear + 64 ≤ length c.args.bytes.now = omega (arith, c.loop-clear-test.true, c.loop-clear.invariant.within) in
    record {
      none = clear_on c.args.bytes.now (λ b. eqb b 10) c.loop-clear.clear 64 refl within c.loop-clear.invariant.none (sym c.contains.ensures.value ∙ c.if-not-contains.true);
      within = within;
    }

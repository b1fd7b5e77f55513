use Rattle.std.proofs.Common.{◌≡◌, ◌∙◌, ◌≤◌, sym, ap, arith, min, drop, ℕ, ◌+◌, ◌-◌, ◌*◌, get_or}
use Rattle.cql_reader.specs.Lexis.{decimal}
use Rattle.cql_reader.proofs.Decimals.{decimal_step, decimal_end}
use Rattle.cql_reader.proofs.numbers.magnitude_of.Goals as goal

pub loop-digit-preserved : goal.loop-digit-preserved
loop-digit-preserved c =
    let ds = c.args.digits.now in
    let i = c.loop-digit.digit-index in
    let v : c.min-value.result ≡ min (10 * c.loop-digit.value + (get_or ds i 0 - 48)) 2199023255552 = c.min-value.ensures ∙ ap (λ (x : ℕ). min (10 * c.loop-digit.value + x) 2199023255552) (c.from.ensures ∙ c.saturating_sub.ensures) in
    record {
      small = omega arith;
      so_far = ap (λ (x : ℕ). min (decimal x (drop (i + 1) ds)) 2199023255552) v ∙ sym (decimal_step ds i c.loop-digit.value 2199023255552 c.loop-digit-test.true) ∙ c.loop-digit.invariant.so_far;
    }

pub returns : goal.returns
returns c =
    let e = decimal_end c.args.digits.now c.loop-digit.digit-index c.loop-digit.value c.loop-digit-test.false in
    let g : c.loop-digit.value ≤ 2199023255552 = c.loop-digit.invariant.small in
    let m : c.loop-digit.value ≡ min c.loop-digit.value 2199023255552 = omega arith in
    m ∙ ap (λ (x : ℕ). min x 2199023255552) (sym e) ∙ c.loop-digit.invariant.so_far

use Rattle.std.proofs.Common.{◌≡◌, ◌≤◌, ◌<◌, ◌-◌, ◌^◌, [], ◌++◌, drop, length, decimal, ap, ◌∙◌, append-nil, arith, rules}
use Rattle.std.proofs.lemmas.Fmt.{decimal_nonempty, length-decimal-le}
use Rattle.std.proofs.lemmas.List.{drop_all}
use Rattle.wire.proofs.Numerals.{put_first, put_next, shorter}
use Rattle.wire.proofs.digits.put_digits.Goals as goal

pub digits-init : goal.digits-init
digits-init c =
    let wide : c.args.number < 2 ^ 64 = search rules in
    let size : length c.args.text.now ≤ 22 = search rules in
    let empty : drop 22 c.args.text.now ≡ [] = drop_all 22 c.args.text.now size in (
      ap (λ behind. decimal c.args.number ++ behind) empty ∙ append-nil (decimal c.args.number),
      omega (arith, length-decimal-le 20 c.args.number (omega arith) (omega (arith, wide)) wide),
      omega arith,
    )

pub overflow_sub-at : goal.overflow_sub-at
overflow_sub-at c =
    let wide : c.digits.rest < 2 ^ 64 = search rules in
    omega (arith, decimal_nonempty c.digits.rest wide, c.digits.invariant.1)

pub returns-then-rest-lt10-clause-digits : goal.returns-then-rest-lt10-clause-digits
returns-then-rest-lt10-clause-digits c =
    let wide : c.digits.rest < 2 ^ 64 = search rules in
    let some : 1 ≤ c.digits.at = omega (arith, decimal_nonempty c.digits.rest wide, c.digits.invariant.1) in
    let room : c.digits.at ≤ length c.digits.text = search rules in
    put_first c.digits.text c.digits.at c.digits.rest c.args.number c.digits.invariant.0 some room c.if-rest-lt10.true

pub returns-then-rest-lt10-clause-room : goal.returns-then-rest-lt10-clause-room
returns-then-rest-lt10-clause-room c =
    let wide : c.digits.rest < 2 ^ 64 = search rules in
    omega (arith, decimal_nonempty c.digits.rest wide, c.digits.invariant.1)

pub digits-smaller : goal.digits-smaller
digits-smaller c =
    let wide : c.digits.rest < 2 ^ 64 = search rules in
    omega (arith, decimal_nonempty c.digits.rest wide, c.digits.invariant.1)

pub digits-preserved : goal.digits-preserved
digits-preserved c =
    let wide : c.digits.rest < 2 ^ 64 = search rules in
    let some : 1 ≤ c.digits.at = omega (arith, decimal_nonempty c.digits.rest wide, c.digits.invariant.1) in
    let room : c.digits.at ≤ length c.digits.text = search rules in (
      put_next c.digits.text c.digits.at c.digits.rest c.args.number c.digits.invariant.0 some room c.if-rest-lt10.false wide,
      omega (arith, shorter c.digits.rest (c.digits.at - 2) (omega (arith, c.digits.invariant.1)) c.if-rest-lt10.false wide, c.digits.invariant.1, decimal_nonempty c.digits.rest wide),
      omega (arith, c.digits.invariant.2),
    )

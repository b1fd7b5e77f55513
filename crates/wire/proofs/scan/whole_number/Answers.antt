use Rattle.std.proofs.Common.{◌≡◌, ◌≤◌, ◌-◌, ◌++◌, decimal, ap, ◌∙◌, arith, rules}
use Rattle.wire.proofs.Numerals.{first_digit, next_digit}
use Rattle.wire.proofs.scan.whole_number.Goals as goal

pub returns-then-number-eq0 : goal.returns-then-number-eq0
returns-then-number-eq0 c =
    let first = c.in-Some-digit_of.ensures in
    let is : c.args.text.now ≡ decimal c.in-Some-digit_of.number ++ c.in-Some.rest.now = first_digit _ _ _ _ c.in-Some.ensures.cases.0 first.0 first.1 in
    (is ∙ ap (λ n. decimal n ++ c.in-Some.rest.now) c.if-number-eq0.true, omega arith)

pub digits-init : goal.digits-init
digits-init c =
    let first = c.in-Some-digit_of.ensures in
    (first_digit _ _ _ _ c.in-Some.ensures.cases.0 first.0 first.1, omega (arith, c.if-number-eq0.false), omega (arith, first.1))

pub digits-preserved : goal.digits-preserved
digits-preserved c =
    let byte = c.in-Some-split_first.byte.now in
    let least : 48 ≤ byte = search rules in
    let most : byte ≤ 57 = search rules in
    let so_far = c.digits.invariant in (
      next_digit _ _ _ _ _ (byte - 48) so_far.0 c.in-Some-split_first.ensures.cases.0 (omega arith) (omega arith) so_far.1 so_far.2,
      omega (arith, so_far.1),
      omega (arith, c.if-number-ge-ROOM.false, most),
    )

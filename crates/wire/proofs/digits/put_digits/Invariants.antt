use Rattle.std.proofs.Common.{◌≡◌, ◌≤◌, ◌++◌, ◌+◌, decimal, drop, length}
use Rattle.wire.proofs.digits.put_digits.Given as goal

abbrev pub invariant-digits : goal.invariant-digits
invariant-digits l = (decimal l.rest ++ drop l.at l.text ≡ decimal l.number) × (length (decimal l.rest) + 2 ≤ l.at) × (l.at ≤ 22)

abbrev pub decreases-digits : goal.decreases-digits
decreases-digits l = l.at

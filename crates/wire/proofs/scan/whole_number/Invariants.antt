use Rattle.std.proofs.Common.{◌≡◌, ◌<◌, ◌++◌, ◌^◌, decimal, length}
use Rattle.wire.proofs.scan.whole_number.Given as goal

abbrev pub invariant-digits : goal.invariant-digits
invariant-digits l = (l.text ≡ decimal l.number ++ l.rest) × (0 < l.number) × (l.number < 10 ^ 17)

abbrev pub decreases-digits : goal.decreases-digits
decreases-digits l = length l.rest

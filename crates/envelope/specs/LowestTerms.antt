-- TO BELIEVE: the theorem rests on these definitions, and no proof can check them.
-- A fraction's lowest terms, and how it is shown.
use Rattle.std.specs.Prelude.{ℕ, ◌/◌, ◌%◌, List, ◌++◌, zero, suc, codes}
use Rattle.std.specs.Fmt.{decimal}
use Rattle.envelope.specs.Fraction.{Fraction, fraction, denominator}

-- Euclid's rule, in fewer steps than the first number
abbrev pub euclid : ℕ → ℕ → ℕ → ℕ
euclid zero a b = a
euclid (suc fuel) a zero = a
euclid (suc fuel) a (suc b) = euclid fuel (suc b) (a % suc b)

-- the greatest number that divides both parts
unfoldable pub common_divisor : Fraction → ℕ
common_divisor x = euclid (suc (denominator x)) x.numerator (denominator x)

-- the same number, with no divisor of both parts left
unfoldable pub lowest_terms : Fraction → Fraction
lowest_terms x = fraction (x.numerator / common_divisor x) (denominator x / common_divisor x)

-- the parts in decimal, a slash between them
abbrev pub shown : Fraction → List ℕ
shown x = decimal x.numerator ++ codes "/" ++ decimal (denominator x)

-- What `==` says of rows that are shown.
use Rattle.std.proofs.Common.{◌≡◌, Bool, true, false, refl, sym}
use Rattle.std.specs.Ordering.{int_eq}
use Rattle.std.specs.Option.{option_eq}
use Rattle.std.specs.Cmp.Lexicographic.{pointwise}
use Rattle.values.proofs.Equality.{row_decides}
use Rattle.values.specs.Row.{Row, same_row}
use Rattle.group.specs.Cells.{held}
use Rattle.group.proofs.KeyLemmas.{same_held}

alike : (b d : Bool) → (b ≡ true → d ≡ true) → (d ≡ true → b ≡ true) → b ≡ d
alike true true f g = refl
alike true false f g = sym (f refl)
alike false true f g = g refl
alike false false f g = refl

-- it compares their values as rows are compared
pub values_eq : (r q : Row) → pointwise (option_eq int_eq) r q ≡ same_row r q
values_eq r q = alike _ _ (λ h. (same_held (held r) (held q)).1 ((row_decides (held r) (held q)).0 h)) (λ h. (row_decides (held r) (held q)).1 ((same_held (held r) (held q)).0 h))

-- The tests of a meaning, and what they say.
use Rattle.std.proofs.Common.{◌≡◌, ◌&&◌, Bool, true, false, nat_le, length, refl}
use Rattle.std.proofs.lemmas.Bool.{leb-true}
use Rattle.values.specs.declared.TheConstants.{MAX_COLUMNS}
use Rattle.values.specs.declared.resolved.Shape.{Shape}
use Rattle.values.specs.declared.resolved.Shape.TheVariants.{Listed, Grouped}
use Rattle.values.specs.Resolved.{FitsRows}
use Rattle.names.specs.Sound.{has_narrow_rows}

left : (a b : Bool) → (a && b) ≡ true → a ≡ true
left true b h = refl
left false b h = h

right : (a b : Bool) → (a && b) ≡ true → b ≡ true
right true b h = h
right false b h = cc

pub fits : (s : Shape) → has_narrow_rows s ≡ true → FitsRows s
fits (Listed columns) h = leb-true (length columns.items) MAX_COLUMNS h
fits (Grouped by items) h =
    (leb-true (length by.items) MAX_COLUMNS (left _ (nat_le (length items.items) MAX_COLUMNS) h), leb-true (length items.items) MAX_COLUMNS (right (nat_le (length by.items) MAX_COLUMNS) _ h))

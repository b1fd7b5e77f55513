-- What keys and figures are compared by.
use Rattle.std.specs.Prelude.{◌≡◌, ℤ, Bool, Option, Some, None, refl}
use Rattle.std.specs.Cmp.{IsEquivalence, IsTotalOrder, int_cmp_total, int_eq_equiv, on_equiv}
use Rattle.std.specs.Cmp.{on_total}
use Rattle.std.specs.Cmp.Lexicographic.{lists_equiv, lists_ties, lists_total, options_equiv}
use Rattle.std.specs.Cmp.Lexicographic.{options_total, pointwise}
use Rattle.std.specs.Option.{option_eq}
use Rattle.std.specs.Ordering.{eq_by_cmp, eq_of_both, int_eq, on}
use Rattle.values.specs.Row.{value_cmp}
use Rattle.group.specs.Cells.{Held, held_cmp}
use Rattle.group.specs.declared.cells.Figure.{Figure}

abbrev pub value_eq : Option ℤ → Option ℤ → Bool
value_eq = option_eq int_eq

abbrev pub held_eq : Held → Held → Bool
held_eq = on (λ h. h.items) (pointwise value_eq)

abbrev pub figure_eq : Figure → Figure → Bool
figure_eq = eq_of_both (on (λ f. f.number) value_eq) (on (λ f. f.value) value_eq)

value_equiv : IsEquivalence value_eq
value_equiv = options_equiv int_eq_equiv

pub held_equiv : IsEquivalence held_eq
held_equiv = on_equiv (λ h. h.items) (lists_equiv value_equiv)

-- keys are equal just where neither is before the other
value_ties : (v w : Option ℤ) → value_eq v w ≡ eq_by_cmp value_cmp v w
value_ties None None = refl
value_ties None (Some z) = refl
value_ties (Some y) None = refl
value_ties (Some y) (Some z) = refl

pub held_ties : (a b : Held) → held_eq a b ≡ eq_by_cmp held_cmp a b
held_ties a b = lists_ties value_cmp value_ties a.items b.items

pub held_total : IsTotalOrder held_cmp
held_total = on_total (λ h. h.items) (lists_total (options_total int_cmp_total))

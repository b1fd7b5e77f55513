-- What a map has at a key after a change at a key.
use Rattle.std.proofs.Common.{◌≡◌, Bool, true, false, cond, Option, Some, None, unwrap_or, List, [], refl, ap, ◌∙◌}
use Rattle.std.specs.Ordering.{is_eq}
use Rattle.std.specs.Option.{IsSome, is_some}
use Rattle.std.specs.Map.{lookup, set_value}
use Rattle.std.specs.BTreeMap.{is_at}
use Rattle.std.specs.Cmp.{Equal-is}
use Rattle.std.proofs.lemmas.Cmp.{eq_by_cmp_equiv, on_total}
use Rattle.std.proofs.lemmas.Map.{lookup-set_value}
use Rattle.values.specs.Orders.{IsExactOrder}
use Rattle.values.specs.Row.{Row, row_cmp, same_row}
use Rattle.values.proofs.Bags.{same_itself}
use Rattle.values.proofs.Order.{row_order}
use Rattle.windows.specs.Latest.{key_cmp, part}
use Rattle.windows.specs.Widths.{OneRow}

pub key_order : IsExactOrder key_cmp
key_order = record {
  total = on_total (λ (r : OneRow). r.items) row_order.total;
  exact = λ r s h. ap (λ xs. record { items = xs }) (row_order.exact r.items s.items h);
}

-- rows that are the same are equal
pub same_exact : (r s : Row) → same_row r s ≡ true → r ≡ s
same_exact r s h = row_order.exact r s ((Equal-is (row_cmp r s)).0 h)

pub same_self : (r : Row) → same_row r r ≡ true
same_self r = same_itself row_cmp row_order r

unwrap_or-cond : {X : Type 0} (b : Bool) (w d : X) (r : Option X) → unwrap_or (cond b (Some w) r) d ≡ cond b w (unwrap_or r d)
unwrap_or-cond true w d r = refl
unwrap_or-cond false w d r = refl

pub part-update : (key k : OneRow) (w : List Row) (old new : Option (List Row)) → new ≡ cond (is_eq (key_cmp key k)) (Some w) old → unwrap_or new [] ≡ cond (is_eq (key_cmp key k)) w (unwrap_or old [])
part-update key k w old new e = ap (λ r. unwrap_or r []) e ∙ unwrap_or-cond (is_eq (key_cmp key k)) w [] old

pub part-set_value : (key k : OneRow) (es : List (OneRow × List Row)) (w : List Row) → IsSome (lookup (is_at (key_cmp key)) es) → part k (set_value (is_at (key_cmp key)) es w) ≡ cond (is_eq (key_cmp key k)) w (part k es)
part-set_value key k es w some =
    let one : (x y : OneRow) → is_eq (key_cmp key x) ≡ true → is_eq (key_cmp key y) ≡ is_eq (key_cmp x y) = λ x y h. ap (λ r. is_eq (key_cmp r y)) (key_order.exact key x ((Equal-is (key_cmp key x)).0 h)) in
    part-update key k w (lookup (is_at (key_cmp k)) es) _ (lookup-set_value (eq_by_cmp_equiv key_order.total) (is_at (key_cmp key)) one k w es some)

none_part : (r : Option (List Row)) → is_some r ≡ false → unwrap_or r [] ≡ []
none_part None h = refl
none_part (Some x) h = cc

pub part-none : (key : OneRow) (es : List (OneRow × List Row)) → is_some (lookup (is_at (key_cmp key)) es) ≡ false → part key es ≡ []
part-none key es h = none_part (lookup (is_at (key_cmp key)) es) h

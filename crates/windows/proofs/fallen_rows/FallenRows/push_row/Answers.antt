use Rattle.std.proofs.Common.{◌≡◌, ◌∙◌, ◌++◌, ◌∷◌, [], ap, ap₂, arith, subst, sym, length, true, rules, List, Bool, Option, Some}
use Rattle.std.proofs.lemmas.List.{length-append}
use Rattle.values.specs.Row.{Row}
use Rattle.windows.specs.Fallen.{fallen_at, falling, those_fallen}
use Rattle.windows.specs.Widths.{AreWide}
use Rattle.windows.proofs.FallenLemmas.{fallen_at-some, falling-some, rows_are}
use Rattle.windows.proofs.fallen_rows.FallenRows.push_row.Goals as goal

pub push-requires-clause-wide : goal.push-requires-clause-wide
push-requires-clause-wide c =
    let s = c.self.inside in
    let row : c.as_slice.result.now ≡ c.args.row.now.items = search rules in
    subst (λ (r : Row). AreWide (length r) s.rows) (sym row)
    (subst (AreWide (length c.args.row.now.items)) (ap those_fallen (sym c.self.view_is) ∙ rows_are s.falls.items s.rows c.self.invariant) c.requires)

pub invariant_of-self-2 : goal.invariant_of-self-2
invariant_of-self-2 c =
    let s = c.self.inside in
    let falls : c.push_reserved.new.self.items ≡ s.falls.items ++ true ∷ [] = c.push_reserved.ensures.items ∙ ap (λ (l : List Bool). l ++ true ∷ []) c.in_ok-reserve.ensures.items in
    omega
    (arith, ap falling falls, falling-some s.falls.items, c.self.invariant, ap (λ (l : List Row). length l) c.in_ok-push.ensures.ok, length-append s.rows (c.as_slice.result.now ∷ []))

pub returns : goal.returns
returns c =
    let s = c.self.inside in
    let row : Row = c.args.row.now.items in
    let falls : c.push_reserved.new.self.items ≡ s.falls.items ++ true ∷ [] = c.push_reserved.ensures.items ∙ ap (λ (l : List Bool). l ++ true ∷ []) c.in_ok-reserve.ensures.items in
    let is : c.as_slice.result.now ≡ row = search rules in
    ap₂ fallen_at falls c.in_ok-push.ensures.ok
    ∙ ap (λ (r : Row). fallen_at (s.falls.items ++ true ∷ []) (s.rows ++ r ∷ [])) is
    ∙ fallen_at-some s.falls.items s.rows row c.self.invariant
    ∙ ap (λ (l : List (Option Row)). l ++ Some row ∷ []) c.self.view_is

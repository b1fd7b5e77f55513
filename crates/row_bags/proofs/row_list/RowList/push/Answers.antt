use Rattle.std.proofs.Common.{◌≡◌, ◌∙◌, ap, ap₂, sym, subst, length, List, ◌∷◌, ◌++◌, [], ℕ, Option, ℤ}
use Rattle.values.specs.Row.{Row}
use Rattle.row_bags.specs.Lists.{rows_by, AreCut}
use Rattle.row_bags.proofs.ListLemmas.{rows_by-more, AreCut-more}
use Rattle.row_bags.proofs.row_list.RowList.push.Goals as goal

pub invariant_of-self-2 : goal.invariant_of-self-2
invariant_of-self-2 c =
    let ws : List ℕ = c.self.inside.widths.items in
    let vs : List (Option ℤ) = c.self.inside.values.items in
    let r : Row = c.args.row.now in
    let w2 : c.push_reserved.new.self.items ≡ ws ++ length r ∷ [] = c.push_reserved.ensures.items ∙ ap (λ (l : List ℕ). l ++ length r ∷ []) c.in_ok-reserve.ensures.items in
    let v2 : c.extend_from_slice.new.self.items ≡ vs ++ r = c.in_ok-extend_from_slice.ensures.items in
    subst (λ (a : List ℕ). AreCut a c.extend_from_slice.new.self.items) (sym w2) (subst (AreCut (ws ++ length r ∷ [])) (sym v2) (AreCut-more ws vs r c.self.invariant c.requires))

pub returns : goal.returns
returns c =
    let ws : List ℕ = c.self.inside.widths.items in
    let vs : List (Option ℤ) = c.self.inside.values.items in
    let r : Row = c.args.row.now in
    let w2 : c.push_reserved.new.self.items ≡ ws ++ length r ∷ [] = c.push_reserved.ensures.items ∙ ap (λ (l : List ℕ). l ++ length r ∷ []) c.in_ok-reserve.ensures.items in
    let v2 : c.extend_from_slice.new.self.items ≡ vs ++ r = c.in_ok-extend_from_slice.ensures.items in
    ap₂ (λ (a : List ℕ) (b : List (Option ℤ)). rows_by a b) w2 v2
    ∙ rows_by-more ws vs r c.self.invariant
    ∙ ap (λ (l : List Row). l ++ r ∷ []) c.self.view_is

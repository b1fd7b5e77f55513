use Rattle.std.proofs.Common.{◌≡◌, ◌∙◌, ap, ap₂, sym, subst, refl, length, List, ◌∷◌, ◌++◌, [], ℕ, Option, ℤ}
use Rattle.values.specs.Row.{Row}
use Rattle.row_bags.specs.declared.dated_rows.DatedHead.{DatedHead}
use Rattle.row_bags.specs.Dated.{dated_by, AreHeaded}
use Rattle.row_bags.proofs.DatedLemmas.{dated_by-more, AreHeaded-more}
use Rattle.row_bags.proofs.dated_rows.DatedRows.push.Goals as goal

pub invariant_of-self-2 : goal.invariant_of-self-2
invariant_of-self-2 c =
    let hs : List DatedHead = c.self.inside.heads.items in
    let vs : List (Option ℤ) = c.self.inside.values.items in
    let r : Row = c.args.row.now in
    let h : DatedHead = record { instant = c.args.instant; width = length r } in
    let heads : c.push_back_reserved.new.self.items ≡ hs ++ h ∷ [] = c.push_back_reserved.ensures.items ∙ ap (λ (l : List DatedHead). l ++ h ∷ []) c.in_ok-reserve.ensures.items in
    let values : c.push_values.new.values.items ≡ vs ++ r = c.push_values.ensures ∙ ap (λ (l : List (Option ℤ)). l ++ r) c.in_ok-reserve-2.ensures.items in
    subst (λ (l : List DatedHead). AreHeaded l c.push_values.new.values.items) (sym heads) (subst (AreHeaded (hs ++ h ∷ [])) (sym values) (AreHeaded-more hs vs r h c.self.invariant refl c.requires))

pub returns-clause-ok : goal.returns-clause-ok
returns-clause-ok c =
    let hs : List DatedHead = c.self.inside.heads.items in
    let vs : List (Option ℤ) = c.self.inside.values.items in
    let r : Row = c.args.row.now in
    let h : DatedHead = record { instant = c.args.instant; width = length r } in
    let heads : c.push_back_reserved.new.self.items ≡ hs ++ h ∷ [] = c.push_back_reserved.ensures.items ∙ ap (λ (l : List DatedHead). l ++ h ∷ []) c.in_ok-reserve.ensures.items in
    let values : c.push_values.new.values.items ≡ vs ++ r = c.push_values.ensures ∙ ap (λ (l : List (Option ℤ)). l ++ r) c.in_ok-reserve-2.ensures.items in
    ap₂ (λ (l : List DatedHead) (v : List (Option ℤ)). dated_by l v) heads values
    ∙ dated_by-more hs vs r h c.self.invariant refl
    ∙ ap (λ (es : List (ℕ × Row)). es ++ (c.args.instant, r) ∷ []) c.self.view_is

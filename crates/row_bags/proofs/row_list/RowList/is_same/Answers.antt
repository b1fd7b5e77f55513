use Rattle.std.proofs.Common.{◌∙◌, ap₂, refl, sym, true≢false}
use Rattle.std.proofs.lemmas.Bool.Decides.{Decides-at, Decides-eqb}
use Rattle.std.proofs.lemmas.Slice.Eq.{slice_eq-Decides}
use Rattle.values.proofs.Equality.{value_decides}
use Rattle.row_bags.specs.Lists.{rows_by}
use Rattle.row_bags.proofs.ListLemmas.{same_values, same_widths}
use Rattle.row_bags.proofs.row_list.RowList.is_same.Goals as goal

pub returns-then-eq : goal.returns-then-eq
returns-then-eq c =
    let s = c.self.inside in
    let o = c.other.inside in
    let widths = Decides-at _ _ c.eq.ensures (slice_eq-Decides Decides-eqb s.widths.items o.widths.items _ refl) in
    let values = Decides-at _ _ c.eq-then-eq.ensures (slice_eq-Decides value_decides s.values.items o.values.items _ refl) in (
      (λ h. sym c.self.view_is ∙ ap₂ rows_by (widths.0 c.if-eq.true) (values.0 h) ∙ c.other.view_is),
      (λ h. values.1 (same_values s.widths.items o.widths.items s.values.items o.values.items c.self.invariant c.other.invariant (c.self.view_is ∙ h ∙ sym c.other.view_is))),
    )

pub returns-else-eq : goal.returns-else-eq
returns-else-eq c =
    let s = c.self.inside in
    let o = c.other.inside in
    let widths = Decides-at _ _ c.eq.ensures (slice_eq-Decides Decides-eqb s.widths.items o.widths.items _ refl) in (
      (λ h. absurd (true≢false (sym h ∙ c.if-eq.false))),
      (λ h. widths.1 (same_widths s.widths.items o.widths.items s.values.items o.values.items c.self.invariant c.other.invariant (c.self.view_is ∙ h ∙ sym c.other.view_is))),
    )

use Rattle.std.proofs.Common.{◌∙◌, ap₂, sym, refl, List, Option, ℤ}
use Rattle.answer_rows.specs.declared.AnswerHead.{AnswerHead}
use Rattle.answer_rows.specs.Rows.{rows_from}
use Rattle.answer_rows.proofs.RowLemmas.{same-parts}
use Rattle.answer_rows.proofs.AnswerRows.is_same.Goals as goal

pub returns-then-not-same_heads : goal.returns-then-not-same_heads
returns-then-not-same_heads c =
    let a = c.self.inside in
    let b = c.other.inside in
    let heads = rw (c.deref.ensures.value, c.deref-2.ensures.value) at c.if-not-same_heads.ensures in
    (λ f. cc, λ e. heads.1 (same-parts 0 a.heads.items b.heads.items a.values.items b.values.items c.self.invariant c.other.invariant (c.self.view_is ∙ e ∙ sym c.other.view_is)).0)

pub returns : goal.returns
returns c =
    let a = c.self.inside in
    let b = c.other.inside in
    let heads = rw (c.deref.ensures.value, c.deref-2.ensures.value) at c.if-not-same_heads.ensures in
    let values = rw (c.deref-3.ensures.value, c.deref-4.ensures.value) at c.same_values.ensures in (
      λ t.
          sym c.self.view_is
          ∙ ap₂ (λ (hs : List AnswerHead) (vs : List (Option ℤ)). rows_from 0 hs vs) (heads.0 refl) (values.0 t)
          ∙ c.other.view_is,
      λ e. values.1 (same-parts 0 a.heads.items b.heads.items a.values.items b.values.items c.self.invariant c.other.invariant (c.self.view_is ∙ e ∙ sym c.other.view_is)).1,
    )

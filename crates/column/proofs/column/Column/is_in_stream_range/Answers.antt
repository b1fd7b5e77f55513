use Rattle.std.proofs.Common.{All, subst, sym, Option, ℤ, List}
use Rattle.values.specs.Ranges.{IsStreamNumber}
use Rattle.column.specs.Columns.{IsStreamValue}
use Rattle.column.proofs.ColumnLemmas.{stream_values, stream_numbers}
use Rattle.column.proofs.column.Column.is_in_stream_range.Goals as goal

pub returns : goal.returns
returns c =
    let P : List ℤ → Type 0 = λ xs. All IsStreamNumber xs in
    let Q : List (Option ℤ) → Type 0 = λ vs. All IsStreamValue vs in (
      λ t. subst Q c.self.view_is (stream_values _ _ c.self.invariant (subst P c.deref.ensures.value (c.all_in_stream_range.ensures.0 t))),
      λ h. c.all_in_stream_range.ensures.1 (subst P (sym c.deref.ensures.value) (stream_numbers _ _ c.self.invariant (subst Q (sym c.self.view_is) h))),
    )

use Rattle.std.proofs.Common.{◌∙◌, ap, arith, slice_range}
use Rattle.column.proofs.ColumnLemmas.{parted}
use Rattle.column.proofs.Slices.{slice_range_within}
use Rattle.column.proofs.column.Column.part.Goals as goal

pub invariant_of-result : goal.invariant_of-result
invariant_of-result c =
    (parted c.self.inside.numbers.items c.self.inside.valid _ c.args.from c.args.to _ _ c.self.invariant c.self.view_is
    (c.in_ok-numbers.ensures.items ∙ ap (λ l. slice_range l c.min-start.result c.min-end.result) c.deref.ensures.value
    ∙ slice_range_within _ _ _ _ _ (omega (arith, c.min-end.ensures, c.len.ensures, c.self.inside.numbers.ok.0)) c.min-start.ensures)
    c.in_ok-valid.ensures).column

pub returns : goal.returns
returns c =
    (parted c.self.inside.numbers.items c.self.inside.valid _ c.args.from c.args.to _ _ c.self.invariant c.self.view_is
    (c.in_ok-numbers.ensures.items ∙ ap (λ l. slice_range l c.min-start.result c.min-end.result) c.deref.ensures.value
    ∙ slice_range_within _ _ _ _ _ (omega (arith, c.min-end.ensures, c.len.ensures, c.self.inside.numbers.ok.0)) c.min-start.ensures)
    c.in_ok-valid.ensures).seen

use Rattle.std.proofs.Common.{◌≡◌, ◌∙◌, ap, ap₂, sym, subst, arith, take, min, List, ℕ, Option, ℤ}
use Rattle.values.specs.Row.{Row}
use Rattle.row_bags.specs.declared.dated_rows.DatedHead.{DatedHead}
use Rattle.row_bags.specs.Dated.{dated_by, AreHeaded, count_values}
use Rattle.row_bags.proofs.DatedLemmas.{AreHeaded-first, count-within, dated_by-first, take-clipped, within-rows}
use Rattle.row_bags.proofs.dated_rows.DatedRows.copy_first.Goals as goal

pub values_of_first-values-requires-clause-within : goal.values_of_first-values-requires-clause-within
values_of_first-values-requires-clause-within c =
    let s = c.self.inside in
    omega (arith, c.min-rows.ensures, c.len.ensures, within-rows s.heads.items s.values.items c.args.self.now c.self.view_is)

pub values_of_first-values-requires-clause-few : goal.values_of_first-values-requires-clause-few
values_of_first-values-requires-clause-few c =
    let s = c.self.inside in
    omega (arith, count-within c.min-rows.result s.heads.items s.values.items c.self.invariant, s.values.ok)

pub copy_of_first-requires : goal.copy_of_first-requires
copy_of_first-requires c =
    let s = c.self.inside in
    omega (arith, c.min-rows.ensures, c.len.ensures, within-rows s.heads.items s.values.items c.args.self.now c.self.view_is)

pub copy_of_first-requires-2 : goal.copy_of_first-requires-2
copy_of_first-requires-2 c =
    let s = c.self.inside in
    omega (arith, c.values_of_first-values.ensures, count-within c.min-rows.result s.heads.items s.values.items c.self.invariant)

pub invariant_of-result : goal.invariant_of-result
invariant_of-result c =
    let s = c.self.inside in
    let values : c.in_ok-values.values.items ≡ take (count_values (take c.min-rows.result s.heads.items)) s.values.items = c.in_ok-values.ensures ∙ ap (λ (n : ℕ). take n s.values.items) c.values_of_first-values.ensures in
    (subst (λ (l : List DatedHead). AreHeaded l c.in_ok-values.values.items) (sym c.in_ok-heads.ensures) (subst (AreHeaded (take c.min-rows.result s.heads.items)) (sym values) (AreHeaded-first c.min-rows.result s.heads.items s.values.items c.self.invariant)), omega arith)

pub returns : goal.returns
returns c =
    let s = c.self.inside in
    let values : c.in_ok-values.values.items ≡ take (count_values (take c.min-rows.result s.heads.items)) s.values.items = c.in_ok-values.ensures ∙ ap (λ (n : ℕ). take n s.values.items) c.values_of_first-values.ensures in
    ap₂ (λ (l : List DatedHead) (v : List (Option ℤ)). dated_by l v) c.in_ok-heads.ensures values
    ∙ dated_by-first c.min-rows.result s.heads.items s.values.items c.self.invariant
    ∙ ap (λ (es : List (ℕ × Row)). take c.min-rows.result es) c.self.view_is
    ∙ take-clipped c.args.count c.min-rows.result c.args.self.now (c.min-rows.ensures ∙ ap (min c.args.count) c.len.ensures)

use Rattle.std.proofs.Common.{◌≡◌, ◌∙◌, ap, ap₂, sym, subst, arith, take, List, ℕ, Option, ℤ}
use Rattle.values.specs.Row.{Row}
use Rattle.row_bags.specs.declared.dated_rows.DatedHead.{DatedHead}
use Rattle.row_bags.specs.Dated.{dated_by, AreHeaded, count_values}
use Rattle.row_bags.proofs.DatedLemmas.{AreHeaded-first, count-within, dated_by-first, within-rows}
use Rattle.row_bags.proofs.dated_rows.DatedRows.keep_first.Goals as goal

pub values_of_first-values-requires-clause-within : goal.values_of_first-values-requires-clause-within
values_of_first-values-requires-clause-within c =
    let s = c.self.inside in
    omega (arith, c.requires, within-rows s.heads.items s.values.items c.args.self.now c.self.view_is)

pub values_of_first-values-requires-clause-few : goal.values_of_first-values-requires-clause-few
values_of_first-values-requires-clause-few c =
    let s = c.self.inside in
    omega (arith, count-within c.args.count s.heads.items s.values.items c.self.invariant, s.values.ok)

pub invariant_of-self : goal.invariant_of-self
invariant_of-self c =
    let s = c.self.inside in
    let values : c.truncate-2.new.self.items ≡ take (count_values (take c.args.count s.heads.items)) s.values.items = c.truncate-2.ensures.items ∙ ap (λ (n : ℕ). take n s.values.items) c.values_of_first-values.ensures in
    subst (λ (l : List DatedHead). AreHeaded l c.truncate-2.new.self.items) (sym c.truncate.ensures.items) (subst (AreHeaded (take c.args.count s.heads.items)) (sym values) (AreHeaded-first c.args.count s.heads.items s.values.items c.self.invariant))

pub returns : goal.returns
returns c =
    let s = c.self.inside in
    let values : c.truncate-2.new.self.items ≡ take (count_values (take c.args.count s.heads.items)) s.values.items = c.truncate-2.ensures.items ∙ ap (λ (n : ℕ). take n s.values.items) c.values_of_first-values.ensures in
    ap₂ (λ (l : List DatedHead) (v : List (Option ℤ)). dated_by l v) c.truncate.ensures.items values
    ∙ dated_by-first c.args.count s.heads.items s.values.items c.self.invariant
    ∙ ap (λ (es : List (ℕ × Row)). take c.args.count es) c.self.view_is

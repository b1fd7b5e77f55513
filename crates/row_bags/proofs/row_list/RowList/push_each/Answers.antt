use Rattle.std.proofs.Common.{◌≡◌, ◌∙◌, ap, ap₂, sym, arith, take, drop, length, get_or, map, List, ◌∷◌, [], ◌++◌, ℕ, ◌+◌, ◌-◌, ◌<◌, Option, ℤ}
use Rattle.std.proofs.Math.Seq.{take-length}
use Rattle.values.specs.Row.{Row}
use Rattle.row_bags.specs.Lists.{rows_by}
use Rattle.row_bags.proofs.DatedLemmas.{dated-behind, kept-behind}
use Rattle.row_bags.proofs.ListLemmas.{Ahead, ahead}
use Rattle.row_bags.proofs.row_list.RowList.push_each.Goals as goal

pub loop-width-init : goal.loop-width-init
loop-width-init c = record {
  all = ap (λ (rs : List Row). c.args.answers.now ++ map (λ (r : Row). (c.args.at, r)) rs) c.self.view_is;
  cut = c.self.invariant;
  within = omega arith;
  kept = take-length c.args.answers.now;
}

pub loop-width-preserved : goal.loop-width-preserved
loop-width-preserved c =
    let i : ℕ = c.loop-width.width-index in
    let start : ℕ = c.loop-width.start in
    let ws : List ℕ = c.self.inside.widths.items in
    let vs : List (Option ℤ) = c.self.inside.values.items in
    let w : ℕ = get_or c.deref-width-items.result.now i 0 in
    let row : Row = take ((start + w) - start) (drop start c.deref.result.now) in
    let are : c.deref-width-items.result.now ≡ ws = c.deref-width-items.ensures.value in
    let values_are : c.deref.result.now ≡ vs = c.deref.ensures.value in
    let few : i < length ws = omega (arith, ap (λ (l : List ℕ). length l) are, c.loop-width-test.true) in
    let a : Ahead i start w ws vs = ahead i start w ws vs few (ap (λ (l : List ℕ). get_or l i 0) are) c.loop-width.invariant.within c.loop-width.invariant.cut in
    let width : (start + w) - start ≡ w = omega arith in
    let is : row ≡ take w (drop start vs) = ap₂ (λ (k : ℕ) (xs : List (Option ℤ)). take k (drop start xs)) width values_are in
    let rest : List Row = rows_by (drop (i + 1) ws) (drop (start + w) vs) in
    let front : rows_by (drop i ws) (drop start vs) ≡ row ∷ rest = a.rows ∙ ap (λ (r : Row). r ∷ rest) (sym is) in
    record {
      all = dated-behind c.args.at c.loop-width.answers c.push.new.self row rest c.in_ok-push.ensures.ok
          ∙ ap (λ (rs : List Row). c.loop-width.answers ++ map (λ (r : Row). (c.args.at, r)) rs) (sym front)
          ∙ c.loop-width.invariant.all;
      cut = a.cut;
      within = a.within;
      kept = kept-behind c.args.answers.now c.push.new.self c.loop-width.answers ((c.args.at, row) ∷ []) c.in_ok-push.ensures.ok c.loop-width.invariant.kept;
    }

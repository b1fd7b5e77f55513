use Rattle.std.proofs.Common.{◌≡◌, ◌∙◌, ap, ap₂, sym, arith, take, drop, length, get_or, List, ◌∷◌, [], ℕ, ◌+◌, ◌-◌, ◌<◌, Option, ℤ, true, false, refl}
use Rattle.values.specs.Row.{Row}
use Rattle.row_bags.specs.Lists.{beyond, beyond_from, is_first, merged, rows_by, staying}
use Rattle.row_bags.specs.Piles.{pile_in}
use Rattle.row_bags.proofs.ListLemmas.{Ahead, ahead}
use Rattle.row_bags.proofs.WalkLemmas.{beyond-front, first-beyond, step-leaves, step-stays}
use Rattle.row_bags.proofs.row_list.RowList.walked.Goals as goal

pub loop-width-preserved-then-stands_at : goal.loop-width-preserved-then-stands_at
loop-width-preserved-then-stands_at c =
    let i : ℕ = c.loop-width.width-index in
    let start : ℕ = c.loop-width.start in
    let ws : List ℕ = c.self.inside.widths.items in
    let vs : List (Option ℤ) = c.self.inside.values.items in
    let w : ℕ = get_or c.deref-width-items.result.now i 0 in
    let row : Row = take ((start + w) - start) (drop start c.deref.result.now) in
    let are : c.deref-width-items.result.now ≡ ws = c.deref-width-items.ensures.value in
    let values_are : c.deref.result.now ≡ vs = c.deref.ensures.value in
    let few : i < length ws = omega (arith, ap (λ (l : List ℕ). length l) are, c.loop-width-test.true) in
    let a : Ahead i start w ws vs = ahead i start w ws vs few (ap (λ (l : List ℕ). get_or l i 0) are) c.loop-width.invariant.within c.loop-width.invariant.cut in
    let width : (start + w) - start ≡ w = omega arith in
    let is : row ≡ take w (drop start vs) = ap₂ (λ (k : ℕ) (xs : List (Option ℤ)). take k (drop start xs)) width values_are in
    let rest : List Row = rows_by (drop (i + 1) ws) (drop (start + w) vs) in
    let front : rows_by (drop i ws) (drop start vs) ≡ row ∷ rest = a.rows ∙ ap (λ (r : Row). r ∷ rest) (sym is) in
    let xs : List Row = pile_in c.args.left.now in
    let ys : List Row = pile_in c.args.entered.now in
    let on : ℕ × ℕ = c.next_beyond-gone-then-stands_at.result in
    let x : Row = get_or xs c.loop-width.gone.0 [] in
    let h : c.loop-width.gone.0 < length xs = omega (arith, c.if-stands_at.ensures.within) in
    let gone : beyond_from c.loop-width.gone xs ys ≡ x ∷ beyond_from on xs ys = beyond-front c.loop-width.gone on x xs ys h refl c.next_beyond-gone-then-stands_at.ensures.rest in
    let left : is_first row (beyond_from c.loop-width.gone xs ys) ≡ true = first-beyond row c.loop-width.gone xs ys ∙ sym c.stands_at.ensures.is ∙ c.if-stands_at.true in
    record {
      all = step-leaves c.loop-width.list (rows_by (drop i ws) (drop start vs)) rest (beyond_from c.loop-width.came ys xs) (merged (staying c.args.self.now (beyond xs ys)) (beyond ys xs)) (beyond_from c.loop-width.gone xs ys) (beyond_from on xs ys) row x front gone left c.loop-width.invariant.all;
      cut = a.cut;
      within = a.within;
      gone_within = c.next_beyond-gone-then-stands_at.ensures.within;
      came_within = c.loop-width.invariant.came_within;
    }

pub loop-width-preserved : goal.loop-width-preserved
loop-width-preserved c =
    let i : ℕ = c.loop-width.width-index in
    let start : ℕ = c.loop-width.start in
    let ws : List ℕ = c.self.inside.widths.items in
    let vs : List (Option ℤ) = c.self.inside.values.items in
    let w : ℕ = get_or c.deref-width-items.result.now i 0 in
    let row : Row = take ((start + w) - start) (drop start c.deref.result.now) in
    let are : c.deref-width-items.result.now ≡ ws = c.deref-width-items.ensures.value in
    let values_are : c.deref.result.now ≡ vs = c.deref.ensures.value in
    let few : i < length ws = omega (arith, ap (λ (l : List ℕ). length l) are, c.loop-width-test.true) in
    let a : Ahead i start w ws vs = ahead i start w ws vs few (ap (λ (l : List ℕ). get_or l i 0) are) c.loop-width.invariant.within c.loop-width.invariant.cut in
    let width : (start + w) - start ≡ w = omega arith in
    let is : row ≡ take w (drop start vs) = ap₂ (λ (k : ℕ) (xs : List (Option ℤ)). take k (drop start xs)) width values_are in
    let rest : List Row = rows_by (drop (i + 1) ws) (drop (start + w) vs) in
    let front : rows_by (drop i ws) (drop start vs) ≡ row ∷ rest = a.rows ∙ ap (λ (r : Row). r ∷ rest) (sym is) in
    let xs : List Row = pile_in c.args.left.now in
    let ys : List Row = pile_in c.args.entered.now in
    let stays : is_first row (beyond_from c.loop-width.gone xs ys) ≡ false = first-beyond row c.loop-width.gone xs ys ∙ sym c.stands_at.ensures.is ∙ c.if-stands_at.false in
    record {
      all = step-stays c.loop-width.list c.push_up_to.new.self c.push.new.self (rows_by (drop i ws) (drop start vs)) rest (beyond_from c.loop-width.gone xs ys) (beyond_from c.loop-width.came ys xs) (beyond_from c.in_ok-came.came ys xs) (merged (staying c.args.self.now (beyond xs ys)) (beyond ys xs)) row
          front stays c.in_ok-came.ensures.rows c.in_ok-came.ensures.rest c.in_ok-push.ensures c.loop-width.invariant.all;
      cut = a.cut;
      within = a.within;
      gone_within = c.loop-width.invariant.gone_within;
      came_within = c.in_ok-came.ensures.within;
    }

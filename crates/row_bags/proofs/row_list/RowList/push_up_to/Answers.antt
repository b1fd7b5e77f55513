use Rattle.std.proofs.Common.{◌≡◌, ◌∙◌, ◌∷◌, ◌++◌, ◌<◌, ap, sym, List, arith, length, append-nil, true, false}
use Rattle.std.specs.Ordering.{is_gt}
use Rattle.values.specs.Row.{Row, row_cmp}
use Rattle.values.specs.Bag.{is_above}
use Rattle.row_bags.specs.Lists.{beyond_from, up_to}
use Rattle.row_bags.specs.Piles.{pile_in}
use Rattle.row_bags.proofs.WalkLemmas.{beyond-front, beyond-stands, past-ends, past-on, pushed-on, up_to-ends, up_to-on}
use Rattle.row_bags.proofs.row_list.RowList.push_up_to.Goals as goal

pub loop-on-preserved : goal.loop-on-preserved
loop-on-preserved c =
    let x : Row = c.args.last.now in
    let xs : List Row = pile_in c.args.rows.now in
    let ys : List Row = pile_in c.args.others.now in
    let y : Row = c.values-next.result.now in
    let rest : List Row = beyond_from c.next_beyond-on.result xs ys in
    let h : c.loop-on.on.0 < length xs = omega (arith, c.loop-on-test.true, c.len.ensures) in
    let first : beyond_from c.loop-on.on xs ys ≡ y ∷ rest = beyond-front c.loop-on.on c.next_beyond-on.result y xs ys h c.values-next.ensures.value c.next_beyond-on.ensures.rest in
    let within : is_above row_cmp y x ≡ false = sym (c.is_gt.ensures ∙ ap is_gt c.cmp.ensures) ∙ c.if-is_gt.false in
    record {
      rows =
          pushed-on c.loop-on.self c.push.new.self (up_to x (beyond_from c.loop-on.on xs ys)) (up_to x rest) y (up_to-on x y (beyond_from c.loop-on.on xs ys) rest first within) c.in_ok-push.ensures
          ∙ c.loop-on.invariant.rows;
      rest = sym (past-on x y (beyond_from c.loop-on.on xs ys) rest first within) ∙ c.loop-on.invariant.rest;
      within = c.next_beyond-on.ensures.within;
    }

pub returns-then-is_gt-clause-rows : goal.returns-then-is_gt-clause-rows
returns-then-is_gt-clause-rows c =
    let x : Row = c.args.last.now in
    let xs : List Row = pile_in c.args.rows.now in
    let ys : List Row = pile_in c.args.others.now in
    let y : Row = c.values-next.result.now in
    let h : c.loop-on.on.0 < length xs = omega (arith, c.loop-on-test.true, c.len.ensures) in
    let above : is_above row_cmp y x ≡ true = sym (c.is_gt.ensures ∙ ap is_gt c.cmp.ensures) ∙ c.if-is_gt.true in
    sym (append-nil c.loop-on.self)
    ∙ ap (λ (l : List Row). c.loop-on.self ++ l) (sym (up_to-ends x y (beyond_from c.loop-on.on xs ys) _ (beyond-stands c.loop-on.on y xs ys h c.values-next.ensures.value) above))
    ∙ c.loop-on.invariant.rows

pub returns-then-is_gt-clause-rest : goal.returns-then-is_gt-clause-rest
returns-then-is_gt-clause-rest c =
    let x : Row = c.args.last.now in
    let xs : List Row = pile_in c.args.rows.now in
    let ys : List Row = pile_in c.args.others.now in
    let y : Row = c.values-next.result.now in
    let h : c.loop-on.on.0 < length xs = omega (arith, c.loop-on-test.true, c.len.ensures) in
    let above : is_above row_cmp y x ≡ true = sym (c.is_gt.ensures ∙ ap is_gt c.cmp.ensures) ∙ c.if-is_gt.true in
    sym (past-ends x y (beyond_from c.loop-on.on xs ys) _ (beyond-stands c.loop-on.on y xs ys h c.values-next.ensures.value) above)
    ∙ c.loop-on.invariant.rest

use Rattle.std.proofs.Common.{◌≡◌, ◌∙◌, ◌∷◌, ◌<◌, List, arith, length}
use Rattle.values.specs.Row.{Row}
use Rattle.row_bags.specs.Lists.{beyond_from}
use Rattle.row_bags.specs.Piles.{pile_in}
use Rattle.row_bags.proofs.WalkLemmas.{beyond-front, pushed-on}
use Rattle.row_bags.proofs.row_list.RowList.push_rest.Goals as goal

pub loop-on-preserved : goal.loop-on-preserved
loop-on-preserved c =
    let xs : List Row = pile_in c.args.rows.now in
    let ys : List Row = pile_in c.args.others.now in
    let y : Row = c.values.result.now in
    let h : c.loop-on.on.0 < length xs = omega (arith, c.loop-on-test.true, c.len.ensures) in
    let first : beyond_from c.loop-on.on xs ys ≡ y ∷ beyond_from c.next_beyond-on.result xs ys = beyond-front c.loop-on.on c.next_beyond-on.result y xs ys h c.values.ensures.value c.next_beyond-on.ensures.rest in
    record {
      rows = pushed-on c.loop-on.self c.push.new.self (beyond_from c.loop-on.on xs ys) (beyond_from c.next_beyond-on.result xs ys) y first c.in_ok-push.ensures ∙ c.loop-on.invariant.rows;
      within = c.next_beyond-on.ensures.within;
    }

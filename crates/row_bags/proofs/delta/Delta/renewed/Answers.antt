use Rattle.std.proofs.Common.{◌≡◌, ◌∙◌, ap, ap₂, List}
use Rattle.values.specs.Row.{Row, row_cmp}
use Rattle.values.specs.Bag.{bag_minus, in_order}
use Rattle.row_bags.specs.Deltas.{PlainDelta}
use Rattle.row_bags.specs.Lists.{beyond, merged, renewed, staying}
use Rattle.row_bags.specs.Piles.{pile_in}
use Rattle.row_bags.proofs.BeyondLaws.{beyond-in_order}
use Rattle.row_bags.proofs.delta.Delta.renewed.Goals as goal

pub returns : goal.returns
returns c =
    let left : List Row = pile_in c.self.inside.left in
    let entered : List Row = pile_in c.self.inside.entered in
    let gone : beyond (pile_in c.in_ok-left.left) (pile_in c.in_ok-entered.entered) ≡ in_order row_cmp (bag_minus row_cmp left entered) = ap₂ beyond c.in_ok-left.ensures c.in_ok-entered.ensures ∙ beyond-in_order left entered in
    let come : beyond (pile_in c.in_ok-entered.entered) (pile_in c.in_ok-left.left) ≡ in_order row_cmp (bag_minus row_cmp entered left) = ap₂ beyond c.in_ok-entered.ensures c.in_ok-left.ensures ∙ beyond-in_order entered left in
    c.in_ok-list.ensures
    ∙ ap₂ (λ (g : List Row) (e : List Row). merged (staying c.args.whole.now g) e) gone come
    ∙ ap (λ (n : PlainDelta). renewed c.args.whole.now n) c.self.view_is

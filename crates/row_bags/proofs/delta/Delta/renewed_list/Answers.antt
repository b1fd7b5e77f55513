use Rattle.std.proofs.Common.{◌≡◌, ◌∙◌, ap, ap₂, List}
use Rattle.values.specs.Row.{Row, row_cmp}
use Rattle.values.specs.Bag.{bag_minus, in_order}
use Rattle.row_bags.specs.Deltas.{PlainDelta, delta_between}
use Rattle.row_bags.specs.Lists.{beyond, merged, renewed, staying}
use Rattle.row_bags.specs.Piles.{pile_in}
use Rattle.row_bags.proofs.BeyondLaws.{beyond-in_order}
use Rattle.row_bags.proofs.PileLemmas.{between-in_order}
use Rattle.row_bags.proofs.delta.Delta.renewed_list.Goals as goal

pub returns-in_err-list-clause-stays : goal.returns-in_err-list-clause-stays
returns-in_err-list-clause-stays c =
    ap₂ delta_between c.sort.ensures c.sort-2.ensures
    ∙ between-in_order (pile_in c.self.inside.left) (pile_in c.self.inside.entered)
    ∙ c.self.view_is

pub returns-clause-list : goal.returns-clause-list
returns-clause-list c =
    let left : List Row = pile_in c.self.inside.left in
    let entered : List Row = pile_in c.self.inside.entered in
    let gone : beyond (pile_in c.sort.new.self) (pile_in c.sort-2.new.self) ≡ in_order row_cmp (bag_minus row_cmp left entered) = ap₂ beyond c.sort.ensures c.sort-2.ensures ∙ beyond-in_order left entered in
    let come : beyond (pile_in c.sort-2.new.self) (pile_in c.sort.new.self) ≡ in_order row_cmp (bag_minus row_cmp entered left) = ap₂ beyond c.sort-2.ensures c.sort.ensures ∙ beyond-in_order entered left in
    c.in_ok-list.ensures
    ∙ ap₂ (λ (g : List Row) (e : List Row). merged (staying c.args.whole.now g) e) gone come
    ∙ ap (λ (n : PlainDelta). renewed c.args.whole.now n) c.self.view_is

pub returns-clause-stays : goal.returns-clause-stays
returns-clause-stays c =
    ap₂ delta_between c.sort.ensures c.sort-2.ensures
    ∙ between-in_order (pile_in c.self.inside.left) (pile_in c.self.inside.entered)
    ∙ c.self.view_is

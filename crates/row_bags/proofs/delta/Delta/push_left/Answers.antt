use Rattle.std.proofs.Common.{◌∙◌, ap₂}
use Rattle.row_bags.specs.Deltas.{delta_between}
use Rattle.row_bags.specs.Piles.{pile_in}
use Rattle.row_bags.proofs.PileLemmas.{between-in_order}
use Rattle.row_bags.proofs.delta.Delta.push_left.Goals as goal

pub returns-clause-stays : goal.returns-clause-stays
returns-clause-stays c =
    ap₂ delta_between c.push_difference.ensures.rows c.push_difference.ensures.others
    ∙ between-in_order (pile_in c.self.inside.left) (pile_in c.self.inside.entered)
    ∙ c.self.view_is

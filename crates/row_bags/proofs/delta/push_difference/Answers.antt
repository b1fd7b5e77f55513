use Rattle.std.proofs.Common.{◌∙◌, ◌++◌, ap, ap₂, map, List}
use Rattle.values.specs.Row.{Row}
use Rattle.row_bags.specs.Lists.{beyond}
use Rattle.row_bags.specs.Piles.{pile_in}
use Rattle.row_bags.proofs.BeyondLaws.{beyond-in_order}
use Rattle.row_bags.proofs.delta.push_difference.Goals as goal

pub returns-in-Ok-clause-ok : goal.returns-in-Ok-clause-ok
returns-in-Ok-clause-ok c =
    c.in-Ok.ensures.ok
    ∙ ap (λ (rs : List Row). c.args.answers.now ++ map (λ (r : Row). (c.args.at, r)) rs)
    (ap₂ beyond c.sort.ensures c.sort-2.ensures ∙ beyond-in_order (pile_in c.args.rows.now) (pile_in c.args.others.now))

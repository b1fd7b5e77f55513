use Rattle.std.proofs.Common.{◌∙◌, ◌∷◌, ◌++◌, [], ap}
use Rattle.group.specs.Cells.{Held}
use Rattle.group.specs.Keys.{in_set}
use Rattle.group.proofs.SetLemmas.{in_set-more}
use Rattle.group.proofs.keyed.touch.Goals as goal

pub returns : goal.returns
returns g c =
    ap in_set (c.push_reserved.ensures.items ∙ ap (λ (k : Held). c.args.touched.now.items ++ k ∷ []) c.new.ensures)
    ∙ in_set-more c.args.touched.now.items c.args.key

use Rattle.std.proofs.Common.{◌∙◌, List, ap, arith}
use Rattle.std.proofs.lemmas.List.{take_all}
use Rattle.group.specs.Cells.{Held}
use Rattle.group.specs.Turns.{near_at}
use Rattle.group.proofs.ExcerptLemmas.{are-touched, touched-are}
use Rattle.group.proofs.keyed.Keyed.excerpts_at.Goals as goal

pub new-requires : goal.new-requires
new-requires g c = are-touched _ _ _ _ _ c.loop-key.invariant

pub returns : goal.returns
returns g c =
    c.new.ensures
    ∙ touched-are _ _ _ _ _ c.loop-key.invariant
    ∙ ap (λ (ks : List Held). near_at c.args.items.now c.args.self.now.cells ks) (take_all c.loop-key.key-index c.args.keys.now (omega arith))

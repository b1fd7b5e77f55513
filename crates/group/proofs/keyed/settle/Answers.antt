use Rattle.std.proofs.Common.{◌∙◌}
use Rattle.std.proofs.lemmas.List.Filters.{dedup_is}
use Rattle.group.proofs.SetLemmas.{settled}
use Rattle.group.proofs.keyed.settle.Goals as goal

pub returns : goal.returns
returns g c =
    dedup_is _ _ _ c.dedup.ensures.filtered
    ∙ settled c.args.touched.now.items c.sort_unstable.new.self.items c.sort_unstable.ensures.permutation c.sort_unstable.ensures.sorted

use Rattle.std.proofs.lemmas.Slice.Eq.{slice_eq-Decides}
use Rattle.histories.proofs.SeenLemmas.{measures_decide}
use Rattle.histories.proofs.command.same_measures.Goals as goal

pub returns : goal.returns
returns c = slice_eq-Decides measures_decide _ _ _ c.eq.ensures

use Rattle.histories.proofs.SeenLemmas.{seen_same, texts_decide}
use Rattle.histories.proofs.command.same_texts.Goals as goal

pub returns : goal.returns
returns c = seen_same _ _ texts_decide _ _ _ c.eq.ensures

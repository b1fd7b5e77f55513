use Rattle.laws_forgetting.proofs.NeedLemmas.{needs_just}
use Rattle.laws_forgetting.proofs.laws.windows_need_just_what_they_show.Goals as goal

pub returns : goal.returns
returns c = needs_just

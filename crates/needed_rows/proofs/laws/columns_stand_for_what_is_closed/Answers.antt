use Rattle.needed_rows.proofs.ColumnLemmas.{stand_for}
use Rattle.needed_rows.proofs.laws.columns_stand_for_what_is_closed.Goals as goal

pub returns : goal.returns
returns c = λ s rows h is. stand_for s rows h is

use Rattle.values.proofs.Closed.{answers-closed}
use Rattle.reference.proofs.laws.later_elements_change_no_closed_answer.Goals as goal

pub returns : goal.returns
returns c = λ q start until inputs longer h. answers-closed q start until inputs longer h

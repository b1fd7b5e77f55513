use Rattle.values.proofs.Worlds.{same-answers}
use Rattle.reference.proofs.laws.equal_window_bags_have_equal_answers.Goals as goal

pub returns : goal.returns
returns c = λ q start until inputs others h. same-answers q start inputs others until h

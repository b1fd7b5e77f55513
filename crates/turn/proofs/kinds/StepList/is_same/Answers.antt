use Rattle.std.proofs.Common.{rules, sym}
use Rattle.std.proofs.lemmas.Slice.Eq.{slice_eq-Decides}
use Rattle.turn.proofs.kinds.StepList.is_same.Goals as goal

pub returns : goal.returns
returns c = rw (sym c.self.view_is) (rw (sym c.other.view_is) (slice_eq-Decides (λ a b. search rules) _ _ _ c.eq.ensures))

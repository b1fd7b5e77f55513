use Rattle.std.proofs.Common.{◌≡◌, subst, sym, true}
use Rattle.reference.specs.Inputs.{are_signed}
use Rattle.query_runtime.proofs.WaitingLemmas.{signed-take}
use Rattle.query_runtime.proofs.waiting.WaitingAnswers.peek.Goals as goal

pub flat_of-requires : goal.flat_of-requires
flat_of-requires c = subst (λ xs. are_signed xs ≡ true) (sym c.in_ok-first.ensures) (signed-take _ c.self.inside.answers (subst (λ xs. are_signed xs ≡ true) (sym c.self.view_is) c.requires))

use Rattle.std.proofs.Common.{◌∙◌, sym}
use Rattle.row_bags.specs.Piles.{pile_in}
use Rattle.row_bags.proofs.ComparedLemmas.{balanced_between}
use Rattle.row_bags.proofs.delta.Delta.is_same.Goals as goal

pub returns : goal.returns
returns c =
    let s = c.self.inside in
    let o = c.other.inside in
    let law = balanced_between (pile_in s.entered) (pile_in o.left) (pile_in o.entered) (pile_in s.left) in (
      (λ h. sym c.self.view_is ∙ law.0 (sym c.are_even.ensures ∙ h) ∙ c.other.view_is),
      (λ h. c.are_even.ensures ∙ law.1 (c.self.view_is ∙ h ∙ sym c.other.view_is)),
    )

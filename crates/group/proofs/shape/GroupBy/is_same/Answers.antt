use Rattle.std.proofs.Common.{rules, sym}
use Rattle.std.proofs.lemmas.Slice.Eq.{slice_eq-Decides}
use Rattle.group.proofs.SameLemmas.{lists_differ, lists_same}
use Rattle.group.proofs.shape.GroupBy.is_same.Goals as goal

pub returns-then-eq : goal.returns-then-eq
returns-then-eq c =
    rw (sym c.self.view_is)
    (rw (sym c.other.view_is)
    (lists_same _ _ _ ((slice_eq-Decides (λ a b. search rules) _ _ _ c.eq.ensures).0 c.if-eq.true) (slice_eq-Decides (λ a b. search rules) _ _ _ c.eq-then-eq.ensures)))

pub returns-else-eq : goal.returns-else-eq
returns-else-eq c = rw (sym c.self.view_is) (rw (sym c.other.view_is) (lists_differ _ _ _ c.if-eq.false (slice_eq-Decides (λ a b. search rules) _ _ _ c.eq.ensures)))

use Rattle.std.proofs.Common.{◌≡◌, rules, sym}
use Rattle.std.proofs.lemmas.Slice.Eq.{slice_eq-Decides}
use Rattle.std.proofs.lemmas.Bool.Decides.{Decides-like}
use Rattle.group.proofs.ExcerptLemmas.{differs, same-rows}
use Rattle.group.proofs.lists.ShownLists.is_same.Goals as goal

pub returns-then-eq : goal.returns-then-eq
returns-then-eq c =
    let same : c.self.inside.there.items ≡ c.other.inside.there.items = (slice_eq-Decides (λ a b. search rules) _ _ _ c.eq.ensures).0 c.if-eq.true in
    rw (sym c.self.view_is) (rw (sym c.other.view_is) (same-rows _ _ _ _ _ _ _ c.self.invariant c.other.invariant (Decides-like _ (λ e. (same, e)) (λ e. e.1) c.is_same.ensures)))

pub returns-else-eq : goal.returns-else-eq
returns-else-eq c =
    rw (sym c.self.view_is)
    (rw (sym c.other.view_is)
    (same-rows _ _ _ _ _ _ _ c.self.invariant c.other.invariant (differs _ _ c.if-eq.false c.if-eq.false (slice_eq-Decides (λ a b. search rules) _ _ _ c.eq.ensures) (λ e. e.0))))

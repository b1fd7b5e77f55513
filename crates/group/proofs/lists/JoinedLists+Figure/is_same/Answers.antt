use Rattle.std.proofs.Common.{◌≡◌, sym}
use Rattle.std.proofs.lemmas.Slice.Eq.{slice_eq-Decides}
use Rattle.std.proofs.lemmas.Bool.Decides.{Decides-like, Decides-eqb}
use Rattle.group.proofs.SameLemmas.{figure_decides}
use Rattle.group.proofs.ListsLemmas.{same-joined}
use Rattle.group.proofs.lists.JoinedLists+Figure.is_same.Goals as goal

pub returns-then-eq : goal.returns-then-eq
returns-then-eq c =
    let same : c.self.inside.ends.items ≡ c.others.inside.ends.items = (slice_eq-Decides Decides-eqb _ _ _ c.eq.ensures).0 c.if-eq.true in
    rw (sym c.self.view_is) (rw (sym c.others.view_is)
    (same-joined _ _ _ _ _ _ _ c.self.invariant c.others.invariant
    (Decides-like _ (λ e. (same, e)) (λ e. e.1) (slice_eq-Decides figure_decides _ _ _ c.eq-then-eq.ensures))))

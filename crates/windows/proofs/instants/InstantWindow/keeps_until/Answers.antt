use Rattle.std.proofs.Common.{◌≡◌, [], subst}
use Rattle.std.specs.List.{filter}
use Rattle.windows.specs.Instants.{InstantState, is_past}
use Rattle.values.specs.Moving.{oldest}
use Rattle.windows.proofs.instants.InstantWindow.keeps_until.Goals as goal

pub returns : goal.returns
returns c t lt =
    let P : InstantState → Type 0 = λ s. filter (is_past s.reach t) s.held ≡ [] in
    subst P c.self.view_is (c.first_instant.ensures (oldest c.self.inside.reach t) (c.keeps_until.ensures t lt))

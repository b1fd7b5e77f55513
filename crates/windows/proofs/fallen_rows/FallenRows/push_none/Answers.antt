use Rattle.std.proofs.Common.{◌∙◌, ◌++◌, ◌∷◌, [], ap, List, Option, None}
use Rattle.values.specs.Row.{Row}
use Rattle.windows.specs.Fallen.{fallen_at, falling}
use Rattle.windows.proofs.FallenLemmas.{fallen_at-none, falling-none}
use Rattle.windows.proofs.fallen_rows.FallenRows.push_none.Goals as goal

pub invariant_of-self-2 : goal.invariant_of-self-2
invariant_of-self-2 c =
    let s = c.self.inside in
    ap falling c.in_ok-push.ensures.items ∙ falling-none s.falls.items ∙ c.self.invariant

pub returns : goal.returns
returns c =
    let s = c.self.inside in
    ap (λ falls. fallen_at falls s.rows) c.in_ok-push.ensures.items
    ∙ fallen_at-none s.falls.items s.rows c.self.invariant
    ∙ ap (λ (l : List (Option Row)). l ++ None ∷ []) c.self.view_is

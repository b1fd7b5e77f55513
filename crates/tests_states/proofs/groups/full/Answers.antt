use Rattle.std.proofs.Common.{◌≡◌, ◌<◌, Bool, List, [], ◌∷◌, length, lit<, subst, sym}
use Rattle.std.proofs.lemmas.List.Elements.{All-replicate}
use Rattle.values.specs.Row.{Row}
use Rattle.tests_states.proofs.groups.full.Goals as goal

has_row : (r : Bool × Row) (rs : List (Bool × Row)) → rs ≡ r ∷ [] → 0 < length rs
has_row r rs e = subst (λ (these : List (Bool × Row)). 0 < length these) (sym e) (lit< tt)

pub picked-requires-clause-within : goal.picked-requires-clause-within
picked-requires-clause-within c = All-replicate (λ i. i < length c.in_ok-row.row) 1024 0 (has_row _ c.in_ok-row.row c.in_ok-row.ensures)

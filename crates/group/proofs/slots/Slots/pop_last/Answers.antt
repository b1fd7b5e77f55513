use Rattle.std.proofs.Common.{true, ◌≡◌, ◌∙◌, ◌∷◌, ◌++◌, [], ℕ, List, ap, sym, rules}
use Rattle.std.specs.Option.{is_some}
use Rattle.group.specs.Places.{at_place}
use Rattle.group.specs.Cells.{Held, CellState}
use Rattle.group.specs.Slots.{SlotsState, cell_at, held_at}
use Rattle.group.proofs.SlotLemmas.{held_last, last_found, occupied, placed_last}
use Rattle.group.proofs.slots.Slots.pop_last.Goals as goal

pub remove-slot-requires : goal.remove-slot-requires
remove-slot-requires g c =
    let e : Held × ℕ = (c.in_ok-key.key, c.in_ok-key.place) in
    let ps : List (Held × ℕ) = c.self.inside.places.entries in
    let rest : List (Held × ℕ) = c.pop_last.new.self.entries in
    let split : ps ≡ rest ++ e ∷ [] = search rules in
    let there : is_some (at_place c.self.inside.slots e.1) ≡ true = occupied (at_place c.self.inside.slots e.1) e.0 (c.self.invariant.there e.0 e.1 (last_found g.row.N ps rest (at_place c.self.inside.slots) e split c.self.invariant)) in
    search rules

pub invariant_of-self-2 : goal.invariant_of-self-2
invariant_of-self-2 g c =
    let e : Held × ℕ = (c.in_ok-key.key, c.in_ok-key.place) in
    let ps : List (Held × ℕ) = c.self.inside.places.entries in
    let rest : List (Held × ℕ) = c.pop_last.new.self.entries in
    let split : ps ≡ rest ++ e ∷ [] = search rules in
    placed_last g.row.N ps rest (at_place c.self.inside.slots) (at_place c.remove-slot.new.self) e split c.self.invariant c.in_ok-key.ensures.ordered c.remove-slot.ensures.gone c.remove-slot.ensures.others

pub returns-clause-last : goal.returns-clause-last
returns-clause-last g c =
    let e : Held × ℕ = (c.in_ok-key.key, c.in_ok-key.place) in
    let ps : List (Held × ℕ) = c.self.inside.places.entries in
    let rest : List (Held × ℕ) = c.pop_last.new.self.entries in
    let split : ps ≡ rest ++ e ∷ [] = search rules in
    sym (ap (λ (s : SlotsState). s.entries) c.self.view_is)
    ∙ held_last g.row.N ps rest (at_place c.self.inside.slots) (at_place c.remove-slot.new.self) e split c.self.invariant c.in_ok-key.ensures.ordered c.remove-slot.ensures.others
    ∙ ap (λ (d : CellState). held_at (at_place c.remove-slot.new.self) rest ++ (e.0, d) ∷ []) (ap cell_at c.remove-slot.ensures.slot ∙ sym c.into_cell.ensures)

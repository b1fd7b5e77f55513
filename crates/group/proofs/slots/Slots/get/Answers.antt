use Rattle.std.proofs.Common.{true, ◌≡◌, ◌∙◌, ℕ, List, Some, ap, sym, rules}
use Rattle.std.specs.BTreeMap.{is_at}
use Rattle.std.specs.Map.{lookup}
use Rattle.std.specs.Option.{is_some}
use Rattle.group.specs.Places.{at_place}
use Rattle.group.specs.Cells.{Held, held_cmp}
use Rattle.group.specs.Slots.{SlotsState}
use Rattle.group.proofs.SlotLemmas.{absent-held, found-held, occupied}
use Rattle.group.proofs.slots.Slots.get.Goals as goal

pub cell-requires : goal.cell-requires
cell-requires g c =
    let k : Held = c.args.key.now in
    let ps : List (Held × ℕ) = c.self.inside.places.entries in
    let found : lookup (is_at (held_cmp k)) ps ≡ Some c.in-Some.place = sym c.in-Some.ensures in
    let there : is_some (at_place c.self.inside.slots c.in-Some.place) ≡ true = occupied (at_place c.self.inside.slots c.in-Some.place) k (c.self.invariant.there k c.in-Some.place found) in
    search rules

pub returns-in-Some : goal.returns-in-Some
returns-in-Some g c =
    let k : Held = c.args.key.now in
    let ps : List (Held × ℕ) = c.self.inside.places.entries in
    let found : lookup (is_at (held_cmp k)) ps ≡ Some c.in-Some.place = sym c.in-Some.ensures in
    ap Some c.cell.ensures
    ∙ sym (found-held (at_place c.self.inside.slots) ps k c.in-Some.place found)
    ∙ ap (λ (s : SlotsState). lookup (is_at (held_cmp k)) s.entries) c.self.view_is

pub returns-in-None : goal.returns-in-None
returns-in-None g c =
    let k : Held = c.args.key.now in
    let ps : List (Held × ℕ) = c.self.inside.places.entries in
    sym (absent-held (at_place c.self.inside.slots) ps k (sym c.in-None.ensures))
    ∙ ap (λ (s : SlotsState). lookup (is_at (held_cmp k)) s.entries) c.self.view_is

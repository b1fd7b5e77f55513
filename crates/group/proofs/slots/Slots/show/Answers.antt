use Rattle.std.proofs.Common.{true, ◌≡◌, ◌∙◌, ℕ, false, List, Option, None, Some, ap, sym, rules}
use Rattle.std.specs.BTreeMap.{is_at, insert_entry}
use Rattle.std.specs.Map.{lookup}
use Rattle.std.specs.Option.{is_some}
use Rattle.group.specs.Places.{at_place}
use Rattle.group.specs.Cells.{Held, held_cmp, CellState, cell_zero, showing}
use Rattle.group.specs.Slots.{SlotsState}
use Rattle.group.specs.Turns.{cell_of, has_key, shown_in}
use Rattle.group.proofs.SlotLemmas.{absent-held, occupied, with_new, with_there}
use Rattle.group.proofs.slots.Slots.show.Goals as goal

pub show-requires : goal.show-requires
show-requires g c =
    let k : Held = c.args.key.now in
    let ps : List (Held × ℕ) = c.self.inside.places.entries in
    let f : ℕ → Option (Held × CellState) = at_place c.self.inside.slots in
    let found : lookup (is_at (held_cmp k)) ps ≡ Some c.in-Some.place = sym c.in-Some.ensures in
    let there : is_some (at_place c.self.inside.slots c.in-Some.place) ≡ true = occupied (f c.in-Some.place) k (c.self.invariant.there k c.in-Some.place found) in
    search rules

pub returns-in-Some : goal.returns-in-Some
returns-in-Some g c =
    let k : Held = c.args.key.now in
    let n : ℕ = c.args.count in
    let ps : List (Held × ℕ) = c.self.inside.places.entries in
    let f : ℕ → Option (Held × CellState) = at_place c.self.inside.slots in
    let found : lookup (is_at (held_cmp k)) ps ≡ Some c.in-Some.place = sym c.in-Some.ensures in
    with_there g.row.N n ps f (at_place c.show.new.self) k c.in-Some.place (λ (d : CellState). showing d (Some c.args.row.now)) (showing (cell_zero n) (Some c.args.row.now)) c.self.invariant found c.in_ok-show.ensures.cell
    ∙ ap (λ (s : SlotsState). shown_in c.args.count k c.args.row.now s.entries) c.self.view_is

pub insert-requires : goal.insert-requires
insert-requires g c =
    let k : Held = c.args.key.now in
    let ps : List (Held × ℕ) = c.self.inside.places.entries in
    let none : lookup (is_at (held_cmp k)) ps ≡ None = search rules in
    let new : has_key k c.args.self.now.entries ≡ false = ap (λ (s : SlotsState). has_key k s.entries) (sym c.self.view_is) ∙ ap is_some (absent-held (at_place c.self.inside.slots) ps k none) in
    search rules

pub returns : goal.returns
returns g c =
    let k : Held = c.args.key.now in
    let n : ℕ = c.args.count in
    let es : List (Held × CellState) = c.args.self.now.entries in
    let ps : List (Held × ℕ) = c.self.inside.places.entries in
    let none : lookup (is_at (held_cmp k)) ps ≡ None = search rules in
    let new : has_key k es ≡ false = ap (λ (s : SlotsState). has_key k s.entries) (sym c.self.view_is) ∙ ap is_some (absent-held (at_place c.self.inside.slots) ps k none) in
    let cell : c.show-2.new.self ≡ showing (cell_zero n) (Some c.args.row.now) = c.in_ok-show-2.ensures ∙ ap (λ (d : CellState). showing d (Some c.args.row.now)) c.new-cell.ensures in
    c.in_ok-insert.ensures.ok
    ∙ ap (λ (d : CellState). insert_entry held_cmp es k d) cell
    ∙ with_new k (showing (cell_of n k es) (Some c.args.row.now)) (showing (cell_zero n) (Some c.args.row.now)) es new

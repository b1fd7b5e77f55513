use Rattle.std.proofs.Common.{true, false, ◌≡◌, ◌∙◌, ℕ, List, Option, None, Some, ap, sym, rules}
use Rattle.std.specs.BTreeMap.{is_at}
use Rattle.std.specs.Map.{lookup, set_value}
use Rattle.std.specs.Option.{is_some}
use Rattle.group.specs.Cells.{Held, held_cmp, CellState, showing}
use Rattle.group.specs.Places.{at_place}
use Rattle.group.specs.Plans.{put_in}
use Rattle.group.specs.Slots.{SlotsState, cell_at, held_at}
use Rattle.group.specs.Turns.{cell_of}
use Rattle.group.proofs.PlanLemmas.{put_none, put_some, set_absent}
use Rattle.group.proofs.SlotLemmas.{absent-held, cell-held, held_set, occupied}
use Rattle.group.proofs.slots.Slots.put_row.Goals as goal

pub put_row-requires : goal.put_row-requires
put_row-requires g c =
    let k : Held = c.args.key.now in
    let f : ℕ → Option (Held × CellState) = at_place c.self.inside.slots in
    let found : lookup (is_at (held_cmp k)) c.self.inside.places.entries ≡ Some c.in-Some.place = sym c.in-Some.ensures in
    let there : is_some (at_place c.self.inside.slots c.in-Some.place) ≡ true = occupied (f c.in-Some.place) k (c.self.invariant.there k c.in-Some.place found) in
    search rules

pub returns-then-not-is_some : goal.returns-then-not-is_some
returns-then-not-is_some g c =
    let none : is_some c.args.row ≡ false = search rules in
    c.remove.ensures ∙ sym (put_none c.args.key.now c.args.row c.args.self.now.entries none)

pub returns-in-Some : goal.returns-in-Some
returns-in-Some g c =
    let k : Held = c.args.key.now in
    let ps : List (Held × ℕ) = c.self.inside.places.entries in
    let f : ℕ → Option (Held × CellState) = at_place c.self.inside.slots in
    let p : ℕ = c.in-Some.place in
    let found : lookup (is_at (held_cmp k)) ps ≡ Some p = sym c.in-Some.ensures in
    let some : is_some c.args.row ≡ true = search rules in
    held_set g.row.N ps f (at_place c.put_row.new.self) k p (showing (cell_at (f p)) c.args.row) c.self.invariant found c.put_row.ensures.cell
    ∙ ap (λ (d : CellState). set_value (is_at (held_cmp k)) (held_at f ps) (showing d c.args.row)) (sym (cell-held 0 f ps k p found))
    ∙ sym (put_some k c.args.row (held_at f ps) some)
    ∙ ap (λ (s : SlotsState). put_in k c.args.row s.entries) c.self.view_is

pub returns-in_default : goal.returns-in_default
returns-in_default g c =
    let k : Held = c.args.key.now in
    let es : List (Held × CellState) = c.args.self.now.entries in
    let none : lookup (is_at (held_cmp k)) c.self.inside.places.entries ≡ None = search rules in
    let some : is_some c.args.row ≡ true = search rules in
    let absent : lookup (is_at (held_cmp k)) es ≡ None = ap (λ (s : SlotsState). lookup (is_at (held_cmp k)) s.entries) (sym c.self.view_is) ∙ absent-held (at_place c.self.inside.slots) c.self.inside.places.entries k none in
    sym (put_some k c.args.row es some ∙ set_absent k (showing (cell_of 0 k es) c.args.row) es absent)

use Rattle.std.proofs.Common.{true, ◌≡◌, ◌∙◌, ◌^◌, ℕ, false, List, Option, None, Some, ap, fold, length, sym, subst, rules}
use Rattle.std.specs.BTreeMap.{is_at, insert_entry}
use Rattle.std.specs.Map.{lookup}
use Rattle.std.specs.Option.{is_some}
use Rattle.group.specs.Places.{at_place}
use Rattle.group.specs.Batches.{batch_in}
use Rattle.group.specs.Cells.{Held, held_cmp, CellState, CellRoom, cell_after, cell_zero}
use Rattle.group.specs.Slots.{SlotsState, cell_at}
use Rattle.group.specs.Turns.{cell_of, has_key}
use Rattle.group.proofs.SlotLemmas.{absent-held, cell-held, occupied, with_new, with_there}
use Rattle.group.proofs.slots.Slots.take_batch.Goals as goal

pub take_batch-requires : goal.take_batch-requires
take_batch-requires g c =
    let k : Held = c.args.key.now in
    let ps : List (Held × ℕ) = c.self.inside.places.entries in
    let f : ℕ → Option (Held × CellState) = at_place c.self.inside.slots in
    let found : lookup (is_at (held_cmp k)) ps ≡ Some c.in-Some.place = sym c.in-Some.ensures in
    let there : is_some (at_place c.self.inside.slots c.in-Some.place) ≡ true = occupied (f c.in-Some.place) k (c.self.invariant.there k c.in-Some.place found) in
    let n : ℕ = length c.args.items.now in
    let same : cell_of n k c.args.self.now.entries ≡ cell_at (f c.in-Some.place) = ap (λ (s : SlotsState). cell_of n k s.entries) (sym c.self.view_is) ∙ cell-held n f ps k c.in-Some.place found in
    let room : CellRoom (2 ^ 62) c.args.items.now (cell_at (f c.in-Some.place)) = subst (CellRoom (2 ^ 62) c.args.items.now) same c.requires.room in
    search rules

pub returns-in-Some-clause-cells : goal.returns-in-Some-clause-cells
returns-in-Some-clause-cells g c =
    let k : Held = c.args.key.now in
    let n : ℕ = length c.args.items.now in
    let ps : List (Held × ℕ) = c.self.inside.places.entries in
    let f : ℕ → Option (Held × CellState) = at_place c.self.inside.slots in
    let found : lookup (is_at (held_cmp k)) ps ≡ Some c.in-Some.place = sym c.in-Some.ensures in
    with_there g.row.N n ps f (at_place c.take_batch.new.self) k c.in-Some.place (λ (d : CellState). fold (cell_after c.args.items.now) d c.args.batch.now) (fold (cell_after c.args.items.now) (cell_zero n) c.args.batch.now) c.self.invariant found c.in_ok-take_batch.ensures.cell
    ∙ ap (λ (s : SlotsState). batch_in c.args.items.now k c.args.batch.now s.entries) c.self.view_is

pub insert-requires : goal.insert-requires
insert-requires g c =
    let k : Held = c.args.key.now in
    let ps : List (Held × ℕ) = c.self.inside.places.entries in
    let none : lookup (is_at (held_cmp k)) ps ≡ None = search rules in
    let new : has_key k c.args.self.now.entries ≡ false = ap (λ (s : SlotsState). has_key k s.entries) (sym c.self.view_is) ∙ ap is_some (absent-held (at_place c.self.inside.slots) ps k none) in
    search rules

pub returns-clause-cells : goal.returns-clause-cells
returns-clause-cells g c =
    let k : Held = c.args.key.now in
    let n : ℕ = length c.args.items.now in
    let es : List (Held × CellState) = c.args.self.now.entries in
    let ps : List (Held × ℕ) = c.self.inside.places.entries in
    let none : lookup (is_at (held_cmp k)) ps ≡ None = search rules in
    let new : has_key k es ≡ false = ap (λ (s : SlotsState). has_key k s.entries) (sym c.self.view_is) ∙ ap is_some (absent-held (at_place c.self.inside.slots) ps k none) in
    let cell : c.take_batch-2.new.self ≡ fold (cell_after c.args.items.now) (cell_zero n) c.args.batch.now = c.in_ok-take_batch-2.ensures.cell ∙ ap (λ (d : CellState). fold (cell_after c.args.items.now) d c.args.batch.now) c.new-cell.ensures in
    c.in_ok-place.ensures.ok
    ∙ ap (λ (d : CellState). insert_entry held_cmp es k d) cell
    ∙ with_new k (fold (cell_after c.args.items.now) (cell_of n k es) c.args.batch.now) (fold (cell_after c.args.items.now) (cell_zero n) c.args.batch.now) es new

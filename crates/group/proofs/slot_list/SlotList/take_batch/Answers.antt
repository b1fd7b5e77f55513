use Rattle.std.proofs.Common.{ℕ, false, slice_set, ◌∙◌, List, ap, ◌≡◌, ◌^◌, Option, get_or, sym, subst, rules}
use Rattle.std.specs.List.{list_any}
use Rattle.group.specs.Cells.{Held, CellState, CellRoom, keeps}
use Rattle.group.specs.declared.slot_list.ListPlace.{ListPlace}
use Rattle.group.specs.Places.{at_place, slot_of}
use Rattle.group.specs.Slots.{cell_at}
use Rattle.group.proofs.PlaceLemmas.{on_err, standing, standing-still}
use Rattle.group.proofs.slot_list.SlotList.take_batch.Goals as goal

pub take_batch-requires : goal.take_batch-requires
take_batch-requires g c =
    let at : get_or c.args.self.now c.args.place c.index_mut.result.now ≡ c.index_mut.result.now = search rules in
    let same : slot_of c.index_mut.result.now ≡ at_place c.args.self.now c.args.place = standing c.args.self.now c.args.place c.index_mut.result.now c.requires.there at in
    let room : CellRoom (2 ^ 62) c.args.items.now (cell_at (slot_of c.index_mut.result.now)) = subst (λ (o : Option (Held × CellState)). CellRoom (2 ^ 62) c.args.items.now (cell_at o)) (sym same) c.requires.room in
    search rules

pub returns-in_err-take_batch-clause-err : goal.returns-in_err-take_batch-clause-err
returns-in_err-take_batch-clause-err g c = on_err c.from_residual.result (list_any keeps c.args.items.now ≡ false → (q : ℕ) → at_place (slice_set c.self.inside.places.items c.args.place c.take_batch.new.self) q ≡ at_place c.args.self.now q) (λ none q.
    standing-still c.self.inside.places.items c.args.place c.index_mut.result.now c.take_batch.new.self c.index_mut.ensures.value (c.in_err-take_batch.ensures.err none) q
    ∙ ap (λ (xs : List (ListPlace g.row.N)). at_place xs q) c.self.view_is)

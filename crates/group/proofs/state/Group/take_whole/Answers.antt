use Rattle.std.proofs.Common.{◌≤◌, rules, ◌≡◌, ◌∙◌, ◌^◌, [], true, sym, ap, ap₂, subst, length, List}
use Rattle.std.specs.BTreeSet.{insert_key}
use Rattle.values.specs.declared.resolved.ListItem.{ListItem}
use Rattle.group.specs.Groups.{no_columns}
use Rattle.group.specs.Cells.{Held, held, held_cmp, CellState, CellRoom}
use Rattle.group.specs.Rooms.{cells_in, room_of, touched_in}
use Rattle.group.specs.Turns.{GroupState, cell_of, rows_after, CountsUpTo, KeepsRoom}
use Rattle.group.specs.Batches.{AllInRange, batch_in}
use Rattle.group.specs.Keys.{AreWhole}
use Rattle.group.proofs.WholeLemmas.{whole_more}
use Rattle.group.proofs.RoomLemmas.{room_at}
use Rattle.group.proofs.BatchLemmas.{whole_batch, batch_keeps_room}
use Rattle.group.proofs.state.Group.take_whole.Goals as goal

pub take_batch_in-requires-clause-room : goal.take_batch_in-requires-clause-room
take_batch_in-requires-clause-room c =
    let is = c.self.inside.group.items in
    let room : CountsUpTo (2 ^ 62) (record { group = c.self.inside.group; cells = cells_in c.self.inside.cells; touched = touched_in c.self.inside.cells }) = subst (λ (s : GroupState). CountsUpTo (2 ^ 62) s) (sym c.self.view_is) c.requires.room in
    subst (λ (js : List ListItem). CellRoom (2 ^ 62) js (cell_of (length js) c.new-key.result (cells_in c.self.inside.cells))) (sym c.items.ensures.value) (room_at (2 ^ 62) is c.new-key.result (cells_in c.self.inside.cells) room)

state : (c : goal.In_ok-take_batch_in) → record { group = c.self.inside.group; cells = cells_in c.take_batch_in.new.self; touched = touched_in c.take_batch_in.new.self } ≡ rows_after c.args.self.now c.args.batch.now
state c =
    let rs = c.args.batch.now in
    let is = c.self.inside.group.items in
    let es = cells_in c.self.inside.cells in
    let s : GroupState = record { group = c.self.inside.group; cells = es; touched = touched_in c.self.inside.cells } in
    let empty : c.new-key.result ≡ held [] = ap held c.new-key.ensures in
    let at : List (Held × CellState) → List Held → GroupState = λ cells touched. record { group = c.self.inside.group; cells = cells; touched = touched } in
    ap₂ at
    (c.in_ok-take_batch_in.ensures.cells ∙ ap (λ (js : List ListItem). batch_in js c.new-key.result rs es) c.items.ensures.value ∙ ap (λ (k : Held). batch_in is k rs es) empty)
    (c.in_ok-take_batch_in.ensures.touched ∙ ap (λ (k : Held). insert_key held_cmp (touched_in c.self.inside.cells) k) empty)
    ∙ whole_batch s rs (subst (λ (t : GroupState). no_columns t.group.by ≡ true) (sym c.self.view_is) c.requires.whole) c.len.ensures.batch.some
    ∙ ap (λ (t : GroupState). rows_after t rs) c.self.view_is

pub returns-clause-state : goal.returns-clause-state
returns-clause-state c = state c

pub returns-clause-room : goal.returns-clause-room
returns-clause-room c =
    let range : AllInRange c.args.self.now.group.items c.args.batch.now =
    subst (λ (t : GroupState). AllInRange t.group.items c.args.batch.now) c.self.view_is (subst (λ (js : List ListItem). AllInRange js c.args.batch.now) c.items.ensures.value c.in_ok-take_batch_in.ensures.range) in
    subst (KeepsRoom c.args.self.now) (sym (state c)) (batch_keeps_room c.args.self.now c.args.batch.now c.len.ensures.batch.few range)

pub invariant_of-self-2 : goal.invariant_of-self-2
invariant_of-self-2 c =
    let empty : c.new-key.result ≡ held [] = ap held c.new-key.ensures in
    let fits : length c.self.inside.group.by ≤ room_of c.take_batch_in.new.self = search rules in
    (fits, λ e. subst (λ (ks : List Held). AreWhole ks) (sym c.in_ok-take_batch_in.ensures.touched) (whole_more c.new-key.result (touched_in c.self.inside.cells) empty (c.self.invariant.1 e)))

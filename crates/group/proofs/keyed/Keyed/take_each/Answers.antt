use Rattle.std.proofs.Common.{◌≡◌, ◌∙◌, ◌+◌, ◌^◌, ◌<◌, ℕ, List, sym, ap, ap₂, subst, length, [], true, arith, rules}
use Rattle.std.proofs.lemmas.List.Sums.{fold_more}
use Rattle.group.specs.Batches.{row_in}
use Rattle.group.specs.Cells.{Held, CellState, CellRoom}
use Rattle.group.specs.Keys.{KeyedState}
use Rattle.group.specs.Runs.{state_with}
use Rattle.group.specs.Turns.{GroupState, cell_of, row_key, row_after, CountsUpTo}
use Rattle.group.proofs.RoomLemmas.{room_at, all_room_le, room_after}
use Rattle.group.proofs.keyed.Keyed.take_each.Goals as goal

pub take_in-requires : goal.take_in-requires
take_in-requires g c =
    let s : GroupState = state_with c.args.group.now c.loop-place.self in
    let k : Held = row_key s.group (row_in c.args.batch.now c.loop-place.place) in
    let room : CellRoom (2 ^ 62 + 1024) s.group.items (cell_of (length s.group.items) k s.cells) =
    room_at (2 ^ 62 + 1024) s.group.items k s.cells
    (all_room_le (2 ^ 62 + c.loop-place.place) (2 ^ 62 + 1024) s.group.items s.cells (omega (arith, c.loop-place-test.true, c.len-place-end.ensures.value, c.len-place-end.ensures.batch.few)) (c.loop-place.invariant.room (2 ^ 62) c.requires.counts)) in
    search rules

pub loop-place-preserved : goal.loop-place-preserved
loop-place-preserved g c =
    let s : GroupState = state_with c.args.group.now c.loop-place.self in
    let p = c.loop-place.place in
    let r = row_in c.args.batch.now p in
    let at : List (Held × CellState) → List Held → GroupState = λ cells touched. record { group = c.args.group.now; cells = cells; touched = touched } in
    let e : state_with c.args.group.now c.take_in.new.self ≡ row_after s r = ap₂ at c.in_default.ensures.cells c.in_default.ensures.touched in
    let within : p < length c.args.batch.now = omega (arith, c.loop-place-test.true, c.len-place-end.ensures.value) in
    record {
      done = e ∙ ap (λ (t : GroupState). row_after t r) c.loop-place.invariant.done ∙ sym (fold_more row_after (state_with c.args.group.now c.args.self.now) c.args.batch.now p (true, []) within);
      room = λ n h.
          let more : n + p + 1 ≡ n + (p + 1) = omega arith in
          subst (λ (m : ℕ). CountsUpTo m (state_with c.args.group.now c.take_in.new.self)) more
          (subst (CountsUpTo (n + p + 1)) (sym e) (room_after (n + p) s r c.in_default.ensures.range (c.loop-place.invariant.room n h)));
    }

pub returns-clause-room : goal.returns-clause-room
returns-clause-room g c = λ n h.
    all_room_le (n + c.loop-place.place) (n + 1024) c.args.group.now.items c.loop-place.self.cells
    (omega (arith, c.loop-place.auto.place-end, c.loop-place-test.false, c.len-place-end.ensures.value, c.len-place-end.ensures.batch.few)) (c.loop-place.invariant.room n h)

pub returns-in-Err-clause-room : goal.returns-in-Err-clause-room
returns-in-Err-clause-room g c = λ n h.
    subst (λ (k : KeyedState). CountsUpTo (n + 1024) (state_with c.args.group.now k)) (sym c.in-Err.ensures.err)
    (all_room_le (n + c.loop-place.place) (n + 1024) c.args.group.now.items c.loop-place.self.cells
    (omega (arith, c.loop-place-test.true, c.len-place-end.ensures.value, c.len-place-end.ensures.batch.few)) (c.loop-place.invariant.room n h))

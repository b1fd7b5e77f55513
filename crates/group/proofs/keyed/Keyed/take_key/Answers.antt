use Rattle.std.proofs.Common.{◌∙◌, List, ap, ap₂, cond}
use Rattle.std.specs.BTreeSet.{insert_key}
use Rattle.group.specs.Batches.{row_in}
use Rattle.group.specs.Cells.{CellState, Held, held_cmp}
use Rattle.group.specs.Keys.{KeyedState}
use Rattle.group.specs.Slots.{SlotsState}
use Rattle.group.proofs.PassedLemmas.{more_either, quiet_either, same_both}
use Rattle.group.proofs.keyed.Keyed.take_key.Goals as goal

pub returns-in-Err-clause-err : goal.returns-in-Err-clause-err
returns-in-Err-clause-err g c =
    let at : List Held → KeyedState = λ ks. record { cells = c.self.inside.cells.entries; touched = ks } in
    ap at (same_both c.self.inside.touched.items c.self.inside.quiet.items c.make_rooms.new.touched.items c.make_rooms.new.quiet.items c.make_rooms.ensures.touched c.make_rooms.ensures.quiet)
    ∙ c.self.view_is

pub returns-in-Err-take-clause-err : goal.returns-in-Err-take-clause-err
returns-in-Err-take-clause-err g c =
    let at : List (Held × CellState) → List Held → KeyedState = λ es ks. record { cells = es; touched = ks } in
    ap₂ at (ap (λ (s : SlotsState). s.entries) c.in-Err-take.ensures.err)
    (same_both c.self.inside.touched.items c.self.inside.quiet.items c.make_rooms.new.touched.items c.make_rooms.new.quiet.items c.make_rooms.ensures.touched c.make_rooms.ensures.quiet)
    ∙ c.self.view_is

pub invariant_of-self-2 : goal.invariant_of-self-2
invariant_of-self-2 g c =
    let ts = c.self.inside.touched.items in
    let qs = c.self.inside.quiet.items in
    let us = c.touch_either.new.touched.items in
    let vs = c.touch_either.new.quiet.items in
    let b = c.in-Ok.taken.is_quiet in
    let row = row_in c.args.batch.now c.args.place in (
      c.self.invariant.0,
      λ t. quiet_either c.args.items.now c.args.key row c.self.inside.cells.entries c.take.new.self.entries ts qs us vs b
          (c.touch_either.ensures.touched ∙ ap (λ (ks : List Held). cond b ks (insert_key held_cmp ks c.args.key)) c.make_rooms.ensures.touched)
          (c.touch_either.ensures.quiet ∙ ap (λ (ks : List Held). cond b (insert_key held_cmp ks c.args.key) ks) c.make_rooms.ensures.quiet)
          c.in-Ok.ensures.cells c.in-Ok.ensures.quiet (c.self.invariant.1 t),
    )

pub returns-clause-touched : goal.returns-clause-touched
returns-clause-touched g c =
    let ts = c.self.inside.touched.items in
    let qs = c.self.inside.quiet.items in
    let b = c.in-Ok.taken.is_quiet in
    more_either ts qs c.touch_either.new.touched.items c.touch_either.new.quiet.items c.args.key b
    (c.touch_either.ensures.touched ∙ ap (λ (ks : List Held). cond b ks (insert_key held_cmp ks c.args.key)) c.make_rooms.ensures.touched)
    (c.touch_either.ensures.quiet ∙ ap (λ (ks : List Held). cond b (insert_key held_cmp ks c.args.key) ks) c.make_rooms.ensures.quiet)
    ∙ ap (λ (s : KeyedState). insert_key held_cmp s.touched c.args.key) c.self.view_is

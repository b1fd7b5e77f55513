use Rattle.std.proofs.Common.{◌≡◌, ◌∙◌, ◌+◌, ◌^◌, suc, false, sym, ap, subst, arith, length, get_or, slice_index_or, slice_set, List, Bool}
use Rattle.values.specs.Row.{Row}
use Rattle.values.specs.declared.resolved.ListItem.TheVariants.{Key}
use Rattle.group.specs.Batches.{row_in}
use Rattle.group.specs.Cells.{TallyState, tally_by, tally_after, partly, TallyRoom, keeps}
use Rattle.group.proofs.TallyLemmas.{partly-at, partly-more, length-partly}
use Rattle.group.proofs.cells.give_back.Goals as goal

pub index_mut-requires : goal.index_mut-requires
index_mut-requires c =
    let s : Bool × Row = (false, (row_in c.args.batch.now c.args.place).1) in
    let l = ap (λ (ts : List TallyState). length ts) c.loop-i.invariant in
    omega (arith, l, length-partly (tally_after s) c.loop-i.i c.args.items.now c.args.tallies.now.items, c.requires.aligned, c.requires.few, c.loop-i-test.true)

pub take_back-requires : goal.take_back-requires
take_back-requires c =
    let s : Bool × Row = (false, (row_in c.args.batch.now c.args.place).1) in
    let ts = c.args.tallies.now.items in
    let x = c.index_mut.result.now in
    let e : x ≡ slice_index_or ts c.loop-i.i x = c.index_mut.ensures.value ∙ ap (λ (us : List TallyState). slice_index_or us c.loop-i.i x) c.loop-i.invariant ∙ partly-at (tally_after s) c.loop-i.i c.args.items.now ts x in
    subst (TallyRoom (2 ^ 62 + 1025)) (sym e) (c.requires.room c.loop-i.i x (omega (arith, c.requires.aligned, c.requires.few, c.loop-i-test.true)))

pub loop-i-preserved : goal.loop-i-preserved
loop-i-preserved c =
    let s : Bool × Row = (false, (row_in c.args.batch.now c.args.place).1) in
    let ts = c.args.tallies.now.items in
    let is = c.args.items.now in
    let p = c.loop-i.i in
    let x = c.index_mut.result.now in
    let e : x ≡ get_or ts p x = c.index_mut.ensures.value ∙ ap (λ (us : List TallyState). slice_index_or us p x) c.loop-i.invariant ∙ partly-at (tally_after s) p is ts x in
    let i = get_or is p (Key 0) in
    let more : suc p ≡ p + 1 = omega arith in
    let taken : c.take_back.new.self ≡ tally_after s i (get_or ts p x) =
    c.take_back.ensures
    ∙ ap (λ k. tally_by false k c.number_at.result x) c.keeps.ensures
    ∙ ap (λ v. tally_by false (keeps i) v x) c.number_at.ensures
    ∙ ap (λ (t : TallyState). tally_after s i t) e in
    ap (λ (us : List TallyState). slice_set us p c.take_back.new.self) c.loop-i.invariant
    ∙ ap (λ (t : TallyState). slice_set (partly (tally_after s) p is ts) p t) taken
    ∙ partly-more (tally_after s) p is ts (Key 0) x (omega (arith, c.requires.few, c.loop-i-test.true)) c.requires.aligned
    ∙ ap (λ n. partly (tally_after s) n is ts) more

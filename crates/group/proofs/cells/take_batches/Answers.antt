use Rattle.std.proofs.Common.{◌≡◌, ◌∙◌, ◌+◌, ◌^◌, suc, sym, ap, subst, arith, length, get_or, slice_index_or, slice_set, List}
use Rattle.std.specs.List.{All}
use Rattle.values.specs.declared.resolved.ListItem.TheVariants.{Key}
use Rattle.values.specs.Ranges.{IsAnswerValue}
use Rattle.group.specs.Cells.{TallyState, partly, TallyRoom}
use Rattle.group.specs.Batches.{numbers_read, tally_rows}
use Rattle.group.proofs.TallyLemmas.{partly-at, partly-more, length-partly, below_more}
use Rattle.group.proofs.cells.take_batches.Goals as goal

pub index_mut-requires : goal.index_mut-requires
index_mut-requires c =
    let l = ap (λ (ts : List TallyState). length ts) c.loop-place.invariant.done in
    omega (arith, l, length-partly (tally_rows c.args.batch.now) c.loop-place.place c.args.items.now c.args.tallies.now.items, c.requires.aligned, c.loop-place-test.true)

pub take_batch-requires : goal.take_batch-requires
take_batch-requires c =
    let ts = c.args.tallies.now.items in
    let x = c.index_mut.result.now in
    let e : x ≡ slice_index_or ts c.loop-place.place x = c.index_mut.ensures.value ∙ ap (λ (us : List TallyState). slice_index_or us c.loop-place.place x) c.loop-place.invariant.done ∙ partly-at (tally_rows c.args.batch.now) c.loop-place.place c.args.items.now ts x in
    subst (TallyRoom (2 ^ 62)) (sym e) (c.requires.room c.loop-place.place x (omega (arith, c.requires.aligned, c.loop-place-test.true)))

pub loop-place-preserved : goal.loop-place-preserved
loop-place-preserved c =
    let ts = c.args.tallies.now.items in
    let is = c.args.items.now in
    let rs = c.args.batch.now in
    let p = c.loop-place.place in
    let x = c.index_mut.result.now in
    let e : x ≡ get_or ts p x = c.index_mut.ensures.value ∙ ap (λ (us : List TallyState). slice_index_or us p x) c.loop-place.invariant.done ∙ partly-at (tally_rows rs) p is ts x in
    let i = get_or is p (Key 0) in
    let more : suc p ≡ p + 1 = omega arith in
    let taken : c.take_batch.new.self ≡ tally_rows rs i (get_or ts p x) = c.in_ok-take_batch.ensures.tally ∙ ap (λ (t : TallyState). tally_rows rs i t) e in
    record {
      done =
          ap (λ (us : List TallyState). slice_set us p c.take_batch.new.self) c.loop-place.invariant.done
          ∙ ap (λ (t : TallyState). slice_set (partly (tally_rows rs) p is ts) p t) taken
          ∙ partly-more (tally_rows rs) p is ts (Key 0) x c.loop-place-test.true c.requires.aligned
          ∙ ap (λ n. partly (tally_rows rs) n is ts) more;
      range = λ k h. below_more (λ j. All IsAnswerValue (numbers_read (get_or is j (Key 0)) rs)) p c.loop-place.invariant.range c.in_ok-take_batch.ensures.range k (omega (arith, h));
    }

pub returns-clause-range : goal.returns-clause-range
returns-clause-range c = λ k h. c.loop-place.invariant.range k (omega (arith, h, c.loop-place-test.false))

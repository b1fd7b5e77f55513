use Rattle.std.proofs.Common.{◌≡◌, ◌∙◌, ◌+◌, ◌^◌, suc, sym, ap, subst, arith, length, get_or, slice_index_or, slice_set, ℕ, List, Bool, true, false}
use Rattle.std.specs.List.{All}
use Rattle.std.proofs.lemmas.List.{get_or_default, set-get_or}
use Rattle.values.specs.Row.{Row}
use Rattle.values.specs.declared.resolved.ListItem.TheVariants.{Key}
use Rattle.values.specs.Ranges.{IsAnswerValue}
use Rattle.group.specs.Batches.{row_in}
use Rattle.group.specs.Cells.{TallyState, tally_by, tally_after, tally_zero, partly, TallyRoom, keeps, number_of}
use Rattle.group.proofs.TallyLemmas.{partly-at, partly-more, length-partly, below_more}
use Rattle.group.proofs.BackLemmas.{partly-back, partly-room}
use Rattle.group.proofs.cells.take_tallies.Goals as goal

pub index_mut-requires : goal.index_mut-requires
index_mut-requires c =
    let l = ap (λ (ts : List TallyState). length ts) c.loop-i.invariant.done in
    omega (arith, l, length-partly (tally_after (row_in c.args.batch.now c.args.place)) c.loop-i.i c.args.items.now c.args.tallies.now.items, c.requires.aligned, c.loop-i-test.true)

pub take-taken-requires : goal.take-taken-requires
take-taken-requires c =
    let ts = c.args.tallies.now.items in
    let s = row_in c.args.batch.now c.args.place in
    let x = c.index_mut.result.now in
    let e : x ≡ slice_index_or ts c.loop-i.i x = c.index_mut.ensures.value ∙ ap (λ (us : List TallyState). slice_index_or us c.loop-i.i x) c.loop-i.invariant.done ∙ partly-at (tally_after s) c.loop-i.i c.args.items.now ts x in
    subst (TallyRoom (2 ^ 62 + 1024)) (sym e) (c.requires.room c.loop-i.i x (omega (arith, c.requires.aligned, c.loop-i-test.true)))

pub loop-i-preserved : goal.loop-i-preserved
loop-i-preserved c =
    let ts = c.args.tallies.now.items in
    let is = c.args.items.now in
    let s = row_in c.args.batch.now c.args.place in
    let p = c.loop-i.i in
    let x = c.index_mut.result.now in
    let e : x ≡ get_or ts p x = c.index_mut.ensures.value ∙ ap (λ (us : List TallyState). slice_index_or us p x) c.loop-i.invariant.done ∙ partly-at (tally_after s) p is ts x in
    let i = get_or is p (Key 0) in
    let more : suc p ≡ p + 1 = omega arith in
    let taken : c.take-taken.new.self ≡ tally_after s i (get_or ts p x) =
    c.in_default.ensures.tally
    ∙ ap (λ b. tally_by b c.keeps.result c.number_at.result x) c.enters-enters.ensures
    ∙ ap (λ k. tally_by s.0 k c.number_at.result x) c.keeps.ensures
    ∙ ap (λ v. tally_by s.0 (keeps i) v x) c.number_at.ensures
    ∙ ap (λ (t : TallyState). tally_after s i t) e in
    let here : IsAnswerValue (number_of i s.1) = subst IsAnswerValue c.number_at.ensures c.in_default.ensures.range in
    let back : s.0 ≡ true → tally_after (false, s.1) i (tally_after (true, s.1) i (get_or ts p tally_zero)) ≡ get_or ts p tally_zero = λ t.
    let d : get_or ts p x ≡ get_or ts p tally_zero = get_or_default ts p x tally_zero (omega (arith, c.requires.aligned, c.loop-i-test.true)) in
    subst (λ (u : TallyState). tally_after (false, s.1) i (tally_after (true, s.1) i u) ≡ u) (e ∙ d)
    (subst (λ v. tally_by false (keeps i) v (tally_by true (keeps i) v x) ≡ x) c.number_at.ensures
    (subst (λ k. tally_by false k c.number_at.result (tally_by true k c.number_at.result x) ≡ x) c.keeps.ensures
    (c.in_default.ensures.back (c.enters-enters.ensures ∙ t)))) in
    record {
      done =
          ap (λ (us : List TallyState). slice_set us p c.take-taken.new.self) c.loop-i.invariant.done
          ∙ ap (λ (t : TallyState). slice_set (partly (tally_after s) p is ts) p t) taken
          ∙ partly-more (tally_after s) p is ts (Key 0) x c.loop-i-test.true c.requires.aligned
          ∙ ap (λ n. partly (tally_after s) n is ts) more;
      range = λ k h. below_more (λ j. IsAnswerValue (number_of (get_or is j (Key 0)) s.1)) p c.loop-i.invariant.range here k (omega (arith, h));
      back = λ t k h. below_more (λ j. tally_after (false, s.1) (get_or is j (Key 0)) (tally_after (true, s.1) (get_or is j (Key 0)) (get_or ts j tally_zero)) ≡ get_or ts j tally_zero) p (c.loop-i.invariant.back t) (back t) k (omega (arith, h));
    }

-- the tallies where one was refused
same : (ts us : List TallyState) (p : ℕ) (x y : TallyState) → y ≡ x → x ≡ slice_index_or ts p x → ts ≡ us → slice_set ts p y ≡ us
same ts us p x y e f h = ap (λ (t : TallyState). slice_set ts p t) (e ∙ f) ∙ set-get_or ts p x ∙ h

pub give_back-requires-clause-room : goal.give_back-requires-clause-room
give_back-requires-clause-room c =
    subst (λ (ts : List TallyState). All (TallyRoom (2 ^ 62 + 1025)) ts) (sym (same _ _ c.loop-i.i c.index_mut.result.now c.take-taken.new.self c.in-Err.ensures.err c.index_mut.ensures.value c.loop-i.invariant.done))
    (partly-room (2 ^ 62 + 1024) (row_in c.args.batch.now c.args.place) c.loop-i.i c.args.items.now c.args.tallies.now.items c.loop-i.invariant.range c.requires.room)

pub returns-in-Err-clause-err : goal.returns-in-Err-clause-err
returns-in-Err-clause-err c =
    let s = row_in c.args.batch.now c.args.place in
    let is = c.args.items.now in
    let ts = c.args.tallies.now.items in
    let p = c.loop-i.i in
    let enters : s.0 ≡ true = sym c.enters-enters.ensures ∙ c.in-Err.ensures.refused.0 in
    let entered : s ≡ (true, s.1) = ap (λ b. (b, s.1)) enters in
    c.give_back.ensures
    ∙ ap (λ (us : List TallyState). partly (tally_after (false, s.1)) p is us) (same _ _ p c.index_mut.result.now c.take-taken.new.self c.in-Err.ensures.err c.index_mut.ensures.value c.loop-i.invariant.done)
    ∙ ap (λ (r : Bool × Row). partly (tally_after (false, s.1)) p is (partly (tally_after r) p is ts)) entered
    ∙ partly-back s.1 p is ts c.requires.aligned (c.loop-i.invariant.back enters)

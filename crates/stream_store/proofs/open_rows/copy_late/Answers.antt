use Rattle.std.proofs.Common.{◌∙◌, ◌++◌, subst, sym, List}
use Rattle.std.specs.Map.{keys_of}
use Rattle.std.specs.List.Sorted.{IsStrictlySortedBy}
use Rattle.std.specs.Ordering.{nat_cmp}
use Rattle.stream_store.specs.Open.{AreWide, Entry, open_of, up_to}
use Rattle.stream_store.specs.OpenRows.{with_late}
use Rattle.stream_store.proofs.KeyLemmas.{sorted_rest}
use Rattle.stream_store.proofs.OpenLemmas.{late_copied, late_end}
use Rattle.stream_store.proofs.open_rows.copy_late.Goals as goal

pub returns-then-at-instant-clause-rows : goal.returns-then-at-instant-clause-rows
returns-then-at-instant-clause-rows c =
    let l = c.loop-instant in
    late_end c.args.at l.place c.args.rising.now.rows l.instant-iterator c.next.new.self (c.in-Some.instant.now, c.in-Some.open.now) c.in-Some.ensures.steps l.invariant.sorted
    (c.args.rows.now.elements ++ up_to c.args.at (with_late (open_of c.args.late.now.entries) c.args.rising.now.rows)) l.rows.elements c.if-at-instant.true l.invariant.rows

pub copy_to-requires-in-loop-instant : goal.copy_to-requires-in-loop-instant
copy_to-requires-in-loop-instant c =
    let l = c.loop-instant in
    let wide = subst (λ (es : List Entry). AreWide c.args.rising.now.width es) c.in-Some.ensures.steps l.invariant.wide in
    c.copy_to.ensures.width ∙ l.invariant.width ∙ sym wide.0

pub loop-instant-preserved : goal.loop-instant-preserved
loop-instant-preserved c =
    let l = c.loop-instant in
    let e : Entry = (c.in-Some.instant.now, c.in-Some.open.now) in
    record {
      rows = late_copied c.args.at l.place c.args.rising.now.rows l.instant-iterator c.next.new.self e c.in-Some.ensures.steps l.invariant.sorted c.in_ok-place.place
          (c.args.rows.now.elements ++ up_to c.args.at (with_late (open_of c.args.late.now.entries) c.args.rising.now.rows)) l.rows.elements c.copy_to.new.rows.elements c.copy_to-in-loop-instant.new.rows.elements
          c.copy_to.ensures.rising c.if-at-instant.false c.in_ok-place.ensures.next c.in_ok-place.ensures.copies c.in_ok-copy_to.ensures.copies l.invariant.rows;
      width = c.copy_to-in-loop-instant.ensures.width ∙ c.copy_to.ensures.width ∙ l.invariant.width;
      wide = (subst (λ (es : List Entry). AreWide c.args.rising.now.width es) c.in-Some.ensures.steps l.invariant.wide).1;
      within = c.in_ok-place.ensures.within;
      sorted = sorted_rest e c.next.new.self (subst (λ (es : List Entry). IsStrictlySortedBy nat_cmp (keys_of es)) c.in-Some.ensures.steps l.invariant.sorted);
    }

use Rattle.std.proofs.Common.{◌≡◌, ◌∙◌, ◌++◌, ◌∷◌, [], ◌+◌, suc, ℤ, Option, ap, ap₂, sym, arith, get_or, map, List, take}
use Rattle.std.proofs.lemmas.List.{map-append}
use Rattle.values.specs.declared.resolved.ListItem.TheVariants.{Key}
use Rattle.group.specs.declared.cells.Figure.{Figure}
use Rattle.group.specs.Cells.{all_tallies, figure, figures, shown_figure, tally_zero}
use Rattle.std.proofs.lemmas.Int.{to_z-of_z}
use mir.Syntax.{w64}
use mir.Val.{to_z, of_z}
use Rattle.group.proofs.TallyLemmas.{figures-more, figures-all, length-padded, padded-at}
use Rattle.group.proofs.cells.write_row.Goals as goal

pub loop-place-preserved : goal.loop-place-preserved
loop-place-preserved c =
    let x = tally_zero in
    let p = c.loop-place.place in
    let is = c.args.items.now in
    let ts = all_tallies c.args.more c.args.tallies.now in
    let size = length-padded c.args.more c.args.tallies.now in
    let k = c.args.key.now in
    let n = to_z w64 (of_z w64 c.args.rows) in
    let f : Figure = figure k n (get_or is p (Key 0)) (get_or ts p x) in
    let more : suc p ≡ p + 1 = omega arith in
    let figured : c.figure_at.result ≡ f = c.figure_at.ensures ∙ ap (figure k n (get_or is p (Key 0))) (sym (padded-at c.args.more c.args.tallies.now p)) in
    record {
      done =
          c.push_reserved.ensures.items
          ∙ ap₂ (λ (vs : List (Option ℤ)) (v : Option ℤ). vs ++ v ∷ []) c.loop-place.invariant.done (c.shown.ensures ∙ ap shown_figure figured)
          ∙ sym (map-append shown_figure (figures k n (take p is) ts) (f ∷ []))
          ∙ ap (map shown_figure) (figures-more k n p is ts (Key 0) x (omega (arith, c.loop-place-test.true, c.min-count.ensures, c.saturating_add.ensures, size)) (omega (arith, c.loop-place-test.true, c.min-count.ensures, c.saturating_add.ensures, size)) ∙ ap (λ q. figures k n (take q is) ts) more);
      count = omega (arith, c.push_reserved.ensures.len, c.loop-place.invariant.count);
      room = omega (arith, c.push_reserved.ensures.capacity, c.loop-place.invariant.room);
    }

pub returns : goal.returns
returns c =
    c.loop-place.invariant.done
    ∙ ap (map shown_figure)
    (figures-all c.args.key.now (to_z w64 (of_z w64 c.args.rows)) c.loop-place.place c.args.items.now (all_tallies c.args.more c.args.tallies.now) (omega (arith, c.loop-place-test.false, c.loop-place.auto.place-end, c.min-count.ensures, c.saturating_add.ensures, length-padded c.args.more c.args.tallies.now))
    ∙ ap (λ z. figures c.args.key.now z c.args.items.now (all_tallies c.args.more c.args.tallies.now)) (to_z-of_z w64 c.args.rows c.ranges.rows))

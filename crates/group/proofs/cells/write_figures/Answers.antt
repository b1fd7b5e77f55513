use Rattle.std.proofs.Common.{◌≡◌, ◌∙◌, ◌++◌, ◌∷◌, [], ◌+◌, suc, ap, ap₂, sym, arith, get_or, List, take}
use Rattle.values.specs.declared.resolved.ListItem.TheVariants.{Key}
use Rattle.group.specs.declared.cells.Figure.{Figure}
use Rattle.group.specs.Cells.{all_tallies, figure, figures, tally_zero}
use Rattle.std.proofs.lemmas.Int.{to_z-of_z}
use mir.Syntax.{w64}
use mir.Val.{to_z, of_z}
use Rattle.group.proofs.TallyLemmas.{figures-more, figures-all, length-padded, padded-at}
use Rattle.group.proofs.cells.write_figures.Goals as goal

pub loop-place-preserved : goal.loop-place-preserved
loop-place-preserved c =
    let x = tally_zero in
    let p = c.loop-place.place in
    let is = c.args.items.now in
    let ts = all_tallies c.args.more c.args.tallies.now in
    let size = length-padded c.args.more c.args.tallies.now in
    let k = c.args.key.now in
    let n = to_z w64 (of_z w64 c.args.rows) in
    let more : suc p ≡ p + 1 = omega arith in
    record {
      done =
          c.in_ok-push.ensures.items
          ∙ ap₂ (λ (fs : List Figure) (f : Figure). fs ++ f ∷ []) c.loop-place.invariant.done (c.figure_at.ensures ∙ ap (figure k n (get_or is p (Key 0))) (sym (padded-at c.args.more c.args.tallies.now p)))
          ∙ figures-more k n p is ts (Key 0) x (omega (arith, c.loop-place-test.true, c.min-count.ensures, c.saturating_add.ensures, size)) (omega (arith, c.loop-place-test.true, c.min-count.ensures, c.saturating_add.ensures, size))
          ∙ ap (λ q. figures k n (take q is) ts) more;
      count = omega (arith, c.in_ok-push.ensures.len, c.loop-place.invariant.count);
    }

pub returns-clause-figures : goal.returns-clause-figures
returns-clause-figures c =
    c.loop-place.invariant.done
    ∙ figures-all c.args.key.now (to_z w64 (of_z w64 c.args.rows)) c.loop-place.place c.args.items.now (all_tallies c.args.more c.args.tallies.now) (omega (arith, c.loop-place-test.false, c.loop-place.auto.place-end, c.min-count.ensures, c.saturating_add.ensures, length-padded c.args.more c.args.tallies.now))
    ∙ ap (λ z. figures c.args.key.now z c.args.items.now (all_tallies c.args.more c.args.tallies.now)) (to_z-of_z w64 c.args.rows c.ranges.rows)

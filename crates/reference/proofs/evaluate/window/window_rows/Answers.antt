use Rattle.std.proofs.Common.{refl, sym, ap, ◌∙◌, Bool}
use Rattle.values.specs.Window as spec
use Rattle.values.specs.Resolved.{window_of}
use Rattle.reference.specs.Views.{elements_of}
use Rattle.reference.proofs.ElementLemmas.{rows_where, rows-pushed, rows-step_no, take-elements_of}
use Rattle.reference.proofs.evaluate.window.window_rows.Goals as goal
use Rattle.reference.proofs.evaluate.window.window_rows.Goals.{then-shows+in_ok-push, else-shows}

pub loop-i-preserved : goal.loop-i-preserved
loop-i-preserved c =
    let p : spec.Element → Bool = spec.shows c.args.from (window_of c.args.window.now) c.args.at (elements_of c.args.input.now) in
    elim c.if-shows.branch [
      | then-shows+in_ok-push w ↦
          rw w.rows-is (rows-pushed p c.args.input.now c.loop-i.i c.loop-i.rows.items _ _ w.index-input-i.result c.loop-i-test.true (sym c.shows.ensures ∙ w.if-shows.true) c.loop-i.invariant
          w.in_ok-push.ensures.items refl)
      | else-shows w ↦
          rw w.rows-is (c.loop-i.invariant ∙ sym (rows-step_no p c.args.input.now c.loop-i.i c.loop-i-test.true (sym c.shows.ensures ∙ w.if-shows.false)))
    ]

pub returns : goal.returns
returns c =
    c.loop-i.invariant
    ∙ ap (rows_where (spec.shows c.args.from (window_of c.args.window.now) c.args.at (elements_of c.args.input.now))) (take-elements_of c.args.input.now c.loop-i.i c.loop-i-test.false)

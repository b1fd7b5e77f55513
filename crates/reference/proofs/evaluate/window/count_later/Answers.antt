use Rattle.std.proofs.Common.{◌≡◌, ◌+◌, take, count_by, sym, ap, ◌∙◌, arith, Bool}
use Rattle.values.specs.Window as spec
use Rattle.reference.specs.Views.{elements_of, element_at}
use Rattle.reference.proofs.ElementLemmas.{count_by-step_yes, count_by-step_no, take-elements_of}
use Rattle.reference.proofs.evaluate.window.count_later.Goals as goal
use Rattle.reference.proofs.evaluate.window.count_later.Goals.{then-counts, else-counts}

pub loop-j-preserved : goal.loop-j-preserved
loop-j-preserved c =
    let p : spec.Element → Bool = spec.counts c.args.columns.now c.args.at (element_at c.args.input.now c.args.i) in
    elim c.if-counts.branch [
      | then-counts w ↦
          let e : count_by p (take (c.loop-j.j + 1) (elements_of c.args.input.now)) ≡ count_by p (take c.loop-j.j (elements_of c.args.input.now)) + 1
          = count_by-step_yes p c.args.input.now c.loop-j.j c.loop-j-test.true (sym c.counts.ensures ∙ w.if-counts.true) in
          (omega arith, w.count-is ∙ ap (λ n. n + 1) c.loop-j.invariant.1 ∙ sym e)
      | else-counts w ↦
          let e : count_by p (take (c.loop-j.j + 1) (elements_of c.args.input.now)) ≡ count_by p (take c.loop-j.j (elements_of c.args.input.now))
          = count_by-step_no p c.args.input.now c.loop-j.j c.loop-j-test.true (sym c.counts.ensures ∙ w.if-counts.false) in
          (omega arith, w.count-is ∙ c.loop-j.invariant.1 ∙ sym e)
    ]

pub returns : goal.returns
returns c =
    c.loop-j.invariant.1
    ∙ ap (count_by (spec.counts c.args.columns.now c.args.at (element_at c.args.input.now c.args.i))) (take-elements_of c.args.input.now c.loop-j.j c.loop-j-test.false)

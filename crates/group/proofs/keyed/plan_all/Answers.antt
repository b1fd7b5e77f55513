use Rattle.std.proofs.Common.{◌≡◌, ◌∙◌, ◌∷◌, ◌++◌, ◌+◌, [], ap, length, drop, sym, List, Option, append_assoc}
use Rattle.std.proofs.lemmas.List.{drop_more}
use Rattle.group.specs.Cells.{Held, CellState}
use Rattle.group.specs.Plans.{plan_of, plans_at}
use Rattle.group.specs.Turns.{cell_of, near_at, outputs}
use Rattle.op_queue.specs.Flat.{FlatState, with_signed}
use Rattle.group.proofs.PlanLemmas.{put-rows}
use Rattle.group.proofs.keyed.plan_all.Goals as goal

pub loop-touch-preserved : goal.loop-touch-preserved
loop-touch-preserved g c =
    let shape = c.args.group.now in
    let ks : List Held = c.args.touched.now in
    let p = c.loop-touch.touch-index in
    let k : Held = c.key.result.now in
    let rest : List Held = drop (p + 1) ks in
    let es : List (Held × CellState) = c.args.cells.now.entries in
    let split : drop p ks ≡ k ∷ rest = drop_more ks p c.touch-item.result c.loop-touch-test.true ∙ ap (λ (x : Held). x ∷ rest) (sym (c.key.ensures ∙ c.touch-item.is)) in
    record {
      plans =
          ap (λ (ps : List (Option (Option Held))). ps ++ plans_at shape es rest) (c.in_ok-push.ensures.items ∙ ap (λ (q : Option (Option Held)). c.loop-touch.plans.items ++ q ∷ []) c.in_ok-plan.ensures.plan)
          ∙ append_assoc c.loop-touch.plans.items (plan_of shape k (cell_of (length shape.items) k es) ∷ []) (plans_at shape es rest)
          ∙ ap (λ (js : List Held). c.loop-touch.plans.items ++ plans_at shape es js) (sym split)
          ∙ c.loop-touch.invariant.plans;
      rows =
          put-rows shape k es rest c.loop-touch.rows c.plan.new.rows c.loop-touch.invariant.width c.in_ok-plan.ensures.rows
          ∙ ap (λ (js : List Held). with_signed c.loop-touch.rows (outputs shape (near_at shape.items es js))) (sym split)
          ∙ c.loop-touch.invariant.rows;
      width = ap (λ (o : FlatState). o.width) c.in_ok-plan.ensures.rows ∙ c.loop-touch.invariant.width;
    }

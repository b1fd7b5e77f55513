use Rattle.std.proofs.Common.{◌∙◌, ◌++◌, ◌∷◌, [], ap, sym, subst, map, Bool, List}
use Rattle.values.specs.Row.{Row}
use Rattle.op_queue.specs.Entries.{Entry, RowAt, TickAt}
use Rattle.op_queue.specs.Forward.{IsForward}
use Rattle.op_queue.specs.Flat.{FlatState}
use Rattle.op_queue.specs.Queues.{HasGrown, Waiting}
use Rattle.op_queue.specs.declared.item.Item.TheVariants.{Tick}
use Rattle.op_queue.proofs.FlatLemmas.{forward_front}
use Rattle.op_queue.proofs.GainLemmas.{gained-item, gained-more, gained-same, on_any_err}
use Rattle.group.specs.Turns.{near_at, outputs}
use Rattle.group.proofs.RunLemmas.{outgoing_rows, tick_whole}
use Rattle.group.proofs.keyed.put_tick.Goals as goal

pub put-requires : goal.put-requires
put-requires g c =
    let outs : List (Bool × Row) = outputs c.args.group.now (near_at c.args.group.now.items c.args.cells.now.entries c.args.touched.now) in
    let is = outgoing_rows outs c.reserve.new.self c.plan_all.new.rows (ap (λ (o : FlatState). o.rows) (c.reserve.ensures ∙ c.new-rows.ensures)) c.in_ok-plans.ensures.rows in
    let before : List (Entry Row) = c.args.queue.now.entries in
    forward_front (before ++ map (RowAt c.args.at) c.plan_all.new.rows.rows) (TickAt c.args.at ∷ []) (subst IsForward (tick_whole c.args.at before c.plan_all.new.rows.rows outs is) c.requires)

pub push-requires : goal.push-requires
push-requires g c =
    let outs : List (Bool × Row) = outputs c.args.group.now (near_at c.args.group.now.items c.args.cells.now.entries c.args.touched.now) in
    let is = outgoing_rows outs c.reserve.new.self c.plan_all.new.rows (ap (λ (o : FlatState). o.rows) (c.reserve.ensures ∙ c.new-rows.ensures)) c.in_ok-plans.ensures.rows in
    subst IsForward
    (tick_whole c.args.at c.args.queue.now.entries c.plan_all.new.rows.rows outs is ∙ ap (λ (es : List (Entry Row)). es ++ TickAt c.args.at ∷ []) (sym c.in_ok-put.ensures.gained.entries))
    c.requires

pub returns-clause-gained : goal.returns-clause-gained
returns-clause-gained g c =
    let outs : List (Bool × Row) = outputs c.args.group.now (near_at c.args.group.now.items c.args.cells.now.entries c.args.touched.now) in
    let is = outgoing_rows outs c.reserve.new.self c.plan_all.new.rows (ap (λ (o : FlatState). o.rows) (c.reserve.ensures ∙ c.new-rows.ensures)) c.in_ok-plans.ensures.rows in
    gained-same (ap (λ (rs : List (Bool × Row)). map (RowAt c.args.at) rs ++ TickAt c.args.at ∷ []) is)
    (gained-more (map (RowAt c.args.at) c.plan_all.new.rows.rows) (TickAt c.args.at ∷ []) c.args.queue.now c.put.new.queue c.push.new.self c.in_ok-put.ensures.gained
    (gained-item (Tick c.args.at) c.put.new.queue c.push.new.self c.in_ok-push.ensures.entries c.in_ok-push.ensures.begins))

pub returns-in_err-push-clause-grown : goal.returns-in_err-push-clause-grown
returns-in_err-push-clause-grown g c =
    on_any_err c.from_residual-in_err-push.result
    (subst (λ (q : Waiting). HasGrown c.args.queue.now q) (sym c.in_err-push.ensures.err) (c.args.at, c.plan_all.new.rows.rows, c.in_ok-put.ensures.gained))

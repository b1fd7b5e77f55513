use Rattle.std.proofs.Common.{◌++◌, refl, sym, subst, List}
use Rattle.op_queue.specs.Entries.{Entry}
use Rattle.op_queue.specs.Forward.{IsForward}
use Rattle.op_queue.specs.declared.item.Item.TheVariants.{Rows, Tick}
use Rattle.op_queue.proofs.GainLemmas.{gained-none, gained-same}
use Rattle.values.specs.Row.{Row}
use Rattle.row_nodes.proofs.PushLemmas.{pushed}
use Rattle.row_nodes.proofs.SelectLemmas.{kept_rows, kept_none}
use Rattle.row_nodes.proofs.selection.run_select.Goals as goal

pub push-requires : goal.push-requires
push-requires c =
    let P : List (Entry Row) → Type 0 = λ es. IsForward (c.args.queue.now.entries ++ es) in
    subst P (sym (kept_rows c.args.steps.now c.in-Rows.at c.in-Rows.batch c.in-Some.rows c.in_ok-mask-in-Rows.mask c.args.item c.in-Rows.is c.in_ok-mask-in-Rows.ensures c.in-Some.ensures)) c.requires.forward

pub returns-in-Some-clause-gained : goal.returns-in-Some-clause-gained
returns-in-Some-clause-gained c =
    pushed c.push.result (Rows c.in-Rows.at c.in-Some.rows) c.args.queue.now c.push.new.self
    (kept_rows c.args.steps.now c.in-Rows.at c.in-Rows.batch c.in-Some.rows c.in_ok-mask-in-Rows.mask c.args.item c.in-Rows.is c.in_ok-mask-in-Rows.ensures c.in-Some.ensures)
    c.push.ensures.entries c.push.ensures.begins

pub returns-in-Rows-clause-gained : goal.returns-in-Rows-clause-gained
returns-in-Rows-clause-gained c =
    gained-same (kept_none c.args.steps.now c.in-Rows.at c.in-Rows.batch c.in_ok-mask-in-Rows.mask c.args.item c.in-Rows.is c.in_ok-mask-in-Rows.ensures c.in-None.ensures) (gained-none c.args.queue.now)

pub returns-clause-gained : goal.returns-clause-gained
returns-clause-gained c =
    rw c.in-Tick.is (pushed c.push-in-Tick.result (Tick c.in-Tick.at) c.args.queue.now c.push-in-Tick.new.self refl c.push-in-Tick.ensures.entries c.push-in-Tick.ensures.begins)

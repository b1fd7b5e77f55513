use Rattle.std.proofs.Common.{◌∙◌, ap, sym}
use Rattle.std.specs.List.{flat_map}
use Rattle.op_queue.specs.Items.{entries_of}
use Rattle.op_queue.specs.declared.item.Item.TheVariants.{Tick}
use Rattle.windows.specs.Instants.{InstantExcerpt, out}
use Rattle.windows.proofs.TableLemmas.{tick_out_is}
use Rattle.windows.proofs.instants.instant_work.Goals as goal

pub returns-in_ok-add-in-Tick : goal.returns-in_ok-add-in-Tick
returns-in_ok-add-in-Tick c =
    let n = c.near.inside in
    tick_out_is c.in-Tick.at n.at_once n.leave n.pass n.enter (flat_map entries_of c.new-outputs.result.items) _ _ _ (ap (flat_map entries_of) c.new-outputs.ensures.items)
    c.in_ok-add_rows-in-Tick.ensures c.in_ok-add_rows-in-Tick-2.ensures c.in_ok-add-in-Tick.ensures
    ∙ ap (λ (m : InstantExcerpt). out (Tick c.in-Tick.at) m) c.near.view_is
    ∙ sym (ap (λ i. out i c.args.near.now) c.in-Tick.is)

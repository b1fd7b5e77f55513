use Rattle.std.proofs.Common.{◌++◌, ◌∙◌, ap, arith, append-nil, sym}
use Rattle.std.specs.List.{flat_map}
use Rattle.std.proofs.lemmas.List.{take_all}
use Rattle.op_queue.specs.Items.{entries_of}
use Rattle.windows.proofs.LeavingLemmas.{rows_at}
use Rattle.windows.proofs.TableLemmas.{more_rows}
use Rattle.windows.proofs.outputs.add_rows.Goals as goal

pub loop-done-init : goal.loop-done-init
loop-done-init c = record { le = omega arith; so_far = sym (append-nil (flat_map entries_of c.args.items.now.items)) }

pub loop-done-preserved : goal.loop-done-preserved
loop-done-preserved c = record {
  le = omega arith;
  so_far =
      more_rows c.args.at c.args.enters c.loop-done.done c.min-more.result c.args.rows.now c.in_ok-batch.batch (flat_map entries_of c.args.items.now.items) (flat_map entries_of c.loop-done.items.items) _
      c.loop-done.invariant.so_far c.in_ok-batch.ensures c.in_ok-add.ensures;
}

pub returns : goal.returns
returns c =
    c.loop-done.invariant.so_far
    ∙ ap (λ rows. flat_map entries_of c.args.items.now.items ++ rows_at c.args.at c.args.enters rows) (take_all c.loop-done.done c.args.rows.now (omega arith))

use Rattle.std.proofs.Common.{◌≡◌, ◌++◌}
use Rattle.operators.specs.Inboxes.{all_begins, all_entries}
use Rattle.operators.proofs.inboxes.push_all.Given as goal

abbrev pub invariant-loop-item : goal.invariant-loop-item
invariant-loop-item l = record {
  entries : l.queue.entries ++ all_entries l.item-iterator.rest.items ≡ l.initial.queue.entries ++ all_entries l.fn.items.items;
  begins : l.queue.begins ++ all_begins l.item-iterator.rest.items ≡ l.initial.queue.begins ++ all_begins l.fn.items.items;
}

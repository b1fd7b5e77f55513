-- What a queue has gained where an item was pushed.
use Rattle.std.proofs.Common.{◌≡◌, ◌++◌, List, OnOk}
use Rattle.std.specs.declared.result.Result.{Result}
use Rattle.std.specs.declared.result.Result.TheVariants.{Ok, Err}
use Rattle.values.specs.Row.{Row}
use Rattle.op_queue.specs.Entries.{Entry}
use Rattle.op_queue.specs.Items.{entries_of}
use Rattle.op_queue.specs.Queues.{HasGained, Waiting, first_begins}
use Rattle.op_queue.specs.declared.item.Item.{Item}
use Rattle.op_queue.proofs.GainLemmas.{gained-item, gained-same}

pub pushed : {E : Type 0} {es : List (Entry Row)} (r : Result (Unit {0}) E) (i : Item) (old new : Waiting) → entries_of i ≡ es
    → OnOk r (new.entries ≡ old.entries ++ entries_of i) → OnOk r (new.begins ≡ old.begins ++ first_begins (entries_of i)) → OnOk r (HasGained es old new)
pushed (Ok x) i old new s e b = gained-same s (gained-item i old new e b)
pushed (Err x) i old new s e b = b

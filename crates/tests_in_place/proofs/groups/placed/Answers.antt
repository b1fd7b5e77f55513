use Rattle.std.proofs.Common.{◌++◌, ap, subst, sym, List}
use Rattle.values.specs.Row.{Row}
use Rattle.op_queue.specs.Entries.{Entry}
use Rattle.op_queue.specs.Forward.{IsForward}
use Rattle.group.specs.Turns.{near, out}
use Rattle.group.proofs.RunLemmas.{out_forward}
use Rattle.tests_in_place.proofs.groups.placed.Goals as goal

pub run-requires-clause-forward : goal.run-requires-clause-forward
run-requires-clause-forward c =
    let s = c.args.group.now in
    let es : List (Entry Row) = out s.group c.args.item (near s c.args.item) in
    subst IsForward (ap (λ (fs : List (Entry Row)). fs ++ es) (sym c.new-queue.ensures.entries)) (out_forward s.group c.args.item (near s c.args.item))

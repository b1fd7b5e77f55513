use Rattle.std.proofs.Common.{◌≡◌, drop}
use Rattle.stream_store.proofs.ordered_rows.leave_heads.Given as goal

abbrev pub invariant-loop : goal.invariant-loop
invariant-loop l = l.heads.items ≡ drop l.counter l.initial.heads.items

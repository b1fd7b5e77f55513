use Rattle.std.proofs.Common.{◌≡◌, length}
use Rattle.leases.specs.ByStream.{AreAlike, lists}
use Rattle.leases.proofs.readers.reach.Given as goal

-- so many lists are there, and each of the first ones is as it was
abbrev pub invariant-loop : goal.invariant-loop
invariant-loop l = record {
  many : length l.by_stream.items ≡ l.counter;
  alike : AreAlike (lists l.fn.by_stream.items) (lists l.by_stream.items);
}

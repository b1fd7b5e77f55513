use Rattle.std.proofs.Common.{◌≡◌, ◌-◌, ◌++◌, drop, length, reverse}
use Rattle.cql_reader.proofs.machine.push_all.Given as goal

abbrev pub invariant-loop-i : goal.invariant-loop-i
invariant-loop-i l = reverse l.stack.items ≡ drop (length l.symbols - l.i) l.symbols ++ reverse l.fn.stack.items

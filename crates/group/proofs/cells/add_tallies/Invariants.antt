use Rattle.std.proofs.Common.{◌≡◌, ◌+◌, ◌++◌, replicate, vec_len, vec_capacity}
use Rattle.group.specs.Cells.{tally_zero}
use Rattle.group.proofs.cells.add_tallies.Given as goal

abbrev pub invariant-loop : goal.invariant-loop
invariant-loop l = record {
  all : l.tallies.items ≡ l.initial.tallies.items ++ replicate l.counter tally_zero;
  len : vec_len l.tallies ≡ vec_len l.initial.tallies + l.counter;
  room : vec_capacity l.tallies ≡ vec_capacity l.initial.tallies;
}
